use Rattle.std.proofs.Common.{◌≡◌, ℕ, ◌+◌, ◌++◌, [], ◌∷◌, List, map, false, sym, ap, subst, ◌∙◌, arith}
use Rattle.std.specs.List.{range_with_len}
use Rattle.std.proofs.lemmas.List.FromFn.{map-range_with_len_more}
use Rattle.bf_id.specs.Id.{BlockId, root_id}
use Rattle.bf_id.specs.Shape.{root_count}
use Rattle.bf_cells.specs.Grid.{Grid}
use Rattle.bf_case.specs.declared.case.Case.{Case}
use Rattle.bf_case.specs.Case.{IsValid}
use Rattle.bf_case.specs.Map.{Leaf, IsBalancedMap}
use Rattle.bf_case.specs.Model.{filled_root, initial, model}
use Rattle.bf_case.proofs.ModelLemmas.{balanced-model_at}
use Rattle.bf_plain.proofs.targets.tests.filled_roots.Goals as goal

one_more : (c : Case) (leaves : List Leaf) (k : ℕ) (i : BlockId) (g : Grid) → leaves ≡ map (filled_root c) (range_with_len 0 k) → i ≡ root_id k → g ≡ (filled_root c k).1
    → leaves ++ (i, g) ∷ [] ≡ map (filled_root c) (range_with_len 0 (k + 1))
one_more c leaves k i g before id cells =
    let same : ◌≡◌ {A = Leaf} (i, g) (filled_root c k) = λ j. (id j, cells j) in
    ap (λ l. l ++ (i, g) ∷ []) before ∙ ap (λ leaf. map (filled_root c) (range_with_len 0 k) ++ leaf ∷ []) same
    ∙ sym (map-range_with_len_more (filled_root c) 0 k k (omega arith))

all_filled : (c : Case) (leaves : List Leaf) (n : ℕ) → IsValid c → leaves ≡ map (filled_root c) (range_with_len 0 n) → n ≡ root_count c.roots → IsBalancedMap c leaves
unfolding initial model
all_filled c leaves n valid are all =
    let whole : leaves ≡ model c 0 = are ∙ ap (λ m. map (filled_root c) (range_with_len 0 m)) all in
    subst (IsBalancedMap c) (sym whole) (balanced-model_at c 0 false valid)

pub loop-root-preserved : goal.loop-root-preserved
loop-root-preserved c =
    c.in_ok-push.ensures.items ∙ one_more c.args.case.now c.loop-root.leaves.items c.loop-root.root _ _ c.loop-root.invariant c.root_of.ensures c.in_ok-filled_root.ensures

pub returns : goal.returns
returns c = all_filled c.args.case.now c.loop-root.leaves.items c.loop-root.root c.requires c.loop-root.invariant
    (omega (arith, c.root_count-count.ensures.exact, c.loop-root.auto.root-end, c.loop-root-test.false))
