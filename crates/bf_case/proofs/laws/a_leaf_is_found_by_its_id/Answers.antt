use Rattle.bf_case.proofs.LookupLemmas.{cells_at-leaf, leaf_from_cells_at}
use Rattle.bf_case.proofs.laws.a_leaf_is_found_by_its_id.Goals as goal

pub returns : goal.returns
returns c shape side leaves i g is = (λ has. cells_at-leaf leaves i g is.rising has, λ found. leaf_from_cells_at leaves i g found)
