-- Each clause of the law is a lemma.
use Rattle.bf_id.proofs.Boxes.{root_from_coordinates, root_holding}
use Rattle.bf_id.proofs.laws.roots_are_told_by_coordinates.Goals as goal

pub returns-clause-number : goal.returns-clause-number
returns-clause-number c = λ shape. root_from_coordinates shape.nx shape.ny

pub returns-clause-holding : goal.returns-clause-holding
returns-clause-holding c = root_holding
