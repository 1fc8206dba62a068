use Rattle.bf_forest.specs.VectorLaws.{all_agreed, all_housed}
use Rattle.bf_forest.proofs.laws.each_member_holds_its_parts_of_the_agreed_snapshot.Goals as goal

pub returns : goal.returns
returns c = record { parts = all_agreed; housed = all_housed }
