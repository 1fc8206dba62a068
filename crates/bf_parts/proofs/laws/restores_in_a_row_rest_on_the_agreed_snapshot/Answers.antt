use Rattle.bf_parts.specs.ViewLaws.{restored_again}
use Rattle.bf_parts.proofs.laws.restores_in_a_row_rest_on_the_agreed_snapshot.Goals as goal

pub returns : goal.returns
returns g c = λ kind shift epoch is_made leaves later lives then_lives owner home_of rank are rise is_home is_live housed. restored_again kind shift epoch is_made leaves later lives then_lives owner home_of rank are rise is_home is_live housed
