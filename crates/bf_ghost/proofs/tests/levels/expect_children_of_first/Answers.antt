use Rattle.std.proofs.Common.{◌≡◌, ◌∙◌, ◌++◌, ◌∷◌, [], List, get_or, length, map, rules, arith, ap, sym}
use Rattle.std.specs.Prelude.{IsTrue}
use Rattle.std.specs.List.{range_with_len}
use Rattle.std.proofs.lemmas.List.{map_more, take_all}
use Rattle.std.proofs.lemmas.List.FromFn.{map-range_with_len_more}
use Rattle.bf_id.specs.Id.{BlockId, child_of, root_id}
use Rattle.bf_block.specs.Block.{BlockValue}
use Rattle.bf_ghost.proofs.tests.levels.expect_children_of_first.Goals as goal

pub loop-octant-preserved : goal.loop-octant-preserved
loop-octant-preserved g c =
    let k = c.loop-octant.octant in
    let b = c.index-blocks-octant.result in
    let passed : IsTrue c.eq.result = first_of (grind arith, search rules) in
    let id : b.id ≡ child_of (root_id 0) k =
    sym c.id.ensures ∙ c.eq.ensures.same.0 passed ∙ c.child-child.ensures ∙ ap (λ (i : BlockId). child_of i k) c.root_of.ensures in
    let there : BlockId = (get_or c.args.blocks.now k b).id in
    map_more (λ (b : BlockValue). b.id) c.args.blocks.now k b (omega arith)
    ∙ ap (λ (ids : List BlockId). ids ++ there ∷ []) c.loop-octant.invariant
    ∙ ap (λ (i : BlockId). map (child_of (root_id 0)) (range_with_len 0 k) ++ i ∷ []) (ap (λ (b : BlockValue). b.id) (sym c.index-blocks-octant.is) ∙ id)
    ∙ sym (map-range_with_len_more (child_of (root_id 0)) 0 k k (omega arith))

pub returns : goal.returns
returns g c =
    let eight : length c.args.blocks.now ≡ 8 = first_of (omega arith, grind arith) in
    let all : c.loop-octant.octant ≡ 8 = omega arith in
    ap (map (λ (b : BlockValue). b.id)) (sym (take_all c.loop-octant.octant c.args.blocks.now (omega arith)))
    ∙ c.loop-octant.invariant ∙ ap (λ n. map (child_of (root_id 0)) (range_with_len 0 n)) all
