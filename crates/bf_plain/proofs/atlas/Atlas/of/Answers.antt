use Rattle.std.proofs.Common.{ℕ, List, refl, sym, subst, ◌∙◌, arith}
use Rattle.std.proofs.lemmas.List.{with_items_is, length-map}
use Rattle.bf_case.specs.Map.{Leaf, ids_of}
use Rattle.bf_plain.specs.Atlas.{Chart, Charts}
use Rattle.bf_plain.proofs.AtlasLemmas.{Charts-from_filled, leaves_few}
use Rattle.bf_plain.proofs.atlas.Atlas.of.Goals as goal

pub number_boxes-requires-clause-few : goal.number_boxes-requires-clause-few
number_boxes-requires-clause-few c =
    let map = c.requires.map.map in
    omega (
      arith,
      length-map c.args.leaves.now (λ (l : Leaf). l.0),
      leaves_few c.args.case.now.roots (ids_of c.args.leaves.now) c.args.case.now.levels c.requires.valid.sized.shape map.tiling map.rising map.ids map.in_shape
          c.requires.map.shallow c.requires.valid.sized.shallow,
    )

pub returns : goal.returns
returns c =
    let shape = c.args.case.now.roots in
    let ids = ids_of c.args.leaves.now in
    let numbers : List ℕ = c.number_boxes.new.numbers in
    let chart : List ℕ → Chart = λ ns. record { shape = shape; level = c.args.case.now.levels; numbers = ns } in
    subst (λ ns. Charts shape ids (chart ns))
    (sym (with_items_is c.in_ok-numbers.numbers numbers (c.number_boxes.auto.numbers ∙ c.deref_mut.ensures.len)))
    (Charts-from_filled shape ids (chart numbers) c.requires.map.map.tiling refl
    (λ v k in' below held. c.number_boxes.ensures.leaves v k in' (omega (arith, length-map c.args.leaves.now (λ (l : Leaf). l.0), below)) held))
