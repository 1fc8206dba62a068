-- Each clause of the law is a lemma.
use Rattle.bf_id.proofs.Boxes.{child_holding, child_is_one}
use Rattle.bf_id.proofs.laws.children_tile_their_parent.Goals as goal

pub returns-clause-covered : goal.returns-clause-covered
returns-clause-covered c = child_holding

pub returns-clause-apart : goal.returns-clause-apart
returns-clause-apart c = child_is_one
