use Rattle.bf_migrate.proofs.BoxLemmas.{boxes_given, holds_halved}
use Rattle.bf_migrate.proofs.laws.blocks_and_what_they_give_have_the_same_boxes.Goals as goal

pub returns-clause-boxes : goal.returns-clause-boxes
returns-clause-boxes c = boxes_given

pub returns-clause-units : goal.returns-clause-units
returns-clause-units c = holds_halved
