use Rattle.bf_migrate.proofs.BoxLemmas.{boxes_made}
use Rattle.bf_migrate.proofs.laws.cargo_and_what_it_makes_have_the_same_boxes.Goals as goal

pub returns : goal.returns
returns c = boxes_made
