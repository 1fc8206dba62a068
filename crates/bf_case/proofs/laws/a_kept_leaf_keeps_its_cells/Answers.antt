use Rattle.std.proofs.lemmas.List.Elements.{All-contains}
use Rattle.bf_case.specs.Map.{HasCells}
use Rattle.bf_case.proofs.MapLemmas.{sampled_leaf_same}
use Rattle.bf_case.proofs.laws.a_kept_leaf_keeps_its_cells.Goals as goal

pub returns : goal.returns
returns c shape side leaves i g is has = sampled_leaf_same shape side leaves (i, g) is has (All-contains (HasCells side) leaves (i, g) is.cells has)
