use Rattle.std.proofs.Common.{arith}
use Rattle.std.proofs.lemmas.List.Elements.{All-contains}
use Rattle.bf_id.specs.Id.{IsId}
use Rattle.bf_case.specs.Map.{Leaf, HasCells, ids_of}
use Rattle.bf_case.proofs.ListLemmas.{Contains-map}
use Rattle.bf_case.proofs.AcrossLemmas.{edge_beside, leaf_edge, same_beside, coarser_beside, finer_beside}
use Rattle.bf_case.proofs.laws.samples_lie_across_a_face.Goals as goal

pub returns : goal.returns
returns c = record {
  edge = λ shape side leaves i g face a b valid is has at.
      let cells = All-contains (HasCells side) leaves (i, g) is.cells has in
      let id = All-contains IsId (ids_of leaves) i is.ids (Contains-map (λ (leaf : Leaf). leaf.0) leaves (i, g) has) in
      let low = cells.valid.low in
      edge_beside shape leaves i g face a b (omega arith) (leaf_edge shape i id.shallow) at;
  same = same_beside;
  coarser = coarser_beside;
  finer = finer_beside;
}
