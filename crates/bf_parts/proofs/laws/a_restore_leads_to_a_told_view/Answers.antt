use Rattle.bf_parts.specs.ViewLaws.{restored_seen}
use Rattle.bf_parts.proofs.laws.a_restore_leads_to_a_told_view.Goals as goal

pub returns : goal.returns
returns g c = λ kind shift epoch is_made leaves later lives owner home_of rank are rise is_home is_live housed. restored_seen kind shift epoch is_made leaves later lives owner home_of rank are rise is_home is_live housed
