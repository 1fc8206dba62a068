-- Each clause of the law is a lemma.
use Rattle.bf_id.proofs.Boxes.{edge-times, edge-over}
use Rattle.bf_id.proofs.laws.edges_halve.Goals as goal

pub returns-clause-whole : goal.returns-clause-whole
returns-clause-whole c = edge-times

pub returns-clause-edge : goal.returns-clause-edge
returns-clause-edge c = edge-over
