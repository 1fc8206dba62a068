-- Strips as they are put to the blocks that they are for.
use Rattle.std.proofs.Common.{◌≡◌, ◌≢◌, ℕ, replicate, ◌<◌, ◌≤◌, Bool, cond, List, [], ◌∷◌, ◌++◌, length, map, get_or, refl, sym, ap, subst, ◌∙◌, arith, ◌⊎◌, inl, inr}
use Rattle.std.proofs.Math.ListN.{set}
use Rattle.std.proofs.lemmas.Bool.{cases_eq, cases_lt, false_from_ne_true}
use Rattle.std.proofs.lemmas.List.{append-nil, ext_get_or, get_or-map, get_or-set_other, get_or-set_same, length-map, length-set, map-set}
use Rattle.std.proofs.lemmas.List.Elements.{filter-append}
use Rattle.bf_lemmas.proofs.Lists.{map_each}
use Rattle.bf_id.specs.Id.{BlockId, id_eq}
use Rattle.bf_id.specs.Walk.{IsBefore}
use Rattle.bf_id.proofs.Boxes.{id_eq_is_equal}
use Rattle.bf_case.proofs.SampleLemmas.{not_before_itself}
use Rattle.bf_ghost.specs.Strips.{StripValue}
use Rattle.bf_ghost.specs.Telling.{strips_for}
use Rattle.bf_msg.specs.declared.linked_block.LinkedBlock.{LinkedBlock}
use Rattle.bf_forest.specs.Ready.{AreOrdered, groups_of}

-- before any strip, nothing is told to any
pub none_told : (blocks : List LinkedBlock) → replicate (length blocks) [] ≡ groups_of [] blocks
none_told [] = refl
none_told (b ∷ blocks) = ap (λ (rest : List (List StripValue)). [] ∷ rest) (none_told blocks)

module _ (blocks : List LinkedBlock) (strips : List StripValue) (strip : StripValue) where
  more : (i : BlockId) → strips_for i (strips ++ strip ∷ []) ≡ strips_for i strips ++ cond (id_eq strip.target i) (strip ∷ []) []
  more i = filter-append (λ (s : StripValue). id_eq s.target i) strips (strip ∷ [])

  same_for : (i : BlockId) → (strip.target ≡ i → ⊥) → strips_for i strips ≡ strips_for i (strips ++ strip ∷ [])
  same_for i other =
      sym (more i ∙ ap (λ (b : Bool). strips_for i strips ++ cond b (strip ∷ []) []) (false_from_ne_true (id_eq strip.target i) (λ t. other ((id_eq_is_equal strip.target i).0 t)))
      ∙ append-nil (strips_for i strips))

  -- the strip is for none of them
  pub put_none : (groups : List (List StripValue)) → ((j : ℕ) (d : LinkedBlock) → j < length blocks → (get_or blocks j d).block.id ≡ strip.target → ⊥)
      → groups ≡ groups_of strips blocks → groups ≡ groups_of (strips ++ strip ∷ []) blocks
  put_none groups none are =
      are ∙ map_each (λ (b : LinkedBlock). strips_for b.block.id strips) (λ (b : LinkedBlock). strips_for b.block.id (strips ++ strip ∷ [])) blocks
      (λ j d in_blocks. same_for (get_or blocks j d).block.id (λ same. none j d in_blocks (sym same)))

  -- or for one
  pub put_one : (groups next : List (List StripValue)) (p : ℕ) (e : LinkedBlock) → AreOrdered blocks → p < length blocks → (get_or blocks p e).block.id ≡ strip.target
      → groups ≡ groups_of strips blocks → next ≡ set groups p (get_or groups p [] ++ strip ∷ []) → next ≡ groups_of (strips ++ strip ∷ []) blocks
  put_one groups next p e ordered in_blocks its are made =
      made ∙ ext_get_or [] (set groups p y) (map g blocks) (length-set groups p y ∙ long ∙ sym (length-map blocks g)) (λ j below. by j (omega (arith, below, length-set groups p y, long)) (cases_eq j p))
    where
      f : LinkedBlock → List StripValue
      f b = strips_for b.block.id strips

      g : LinkedBlock → List StripValue
      g b = strips_for b.block.id (strips ++ strip ∷ [])

      y : List StripValue
      y = get_or groups p [] ++ strip ∷ []

      long : length groups ≡ length blocks
      long = ap length are ∙ length-map blocks f

      here : y ≡ g (get_or blocks p e)
      here =
          ap (λ (l : List StripValue). l ++ strip ∷ []) (ap (λ (l : List (List StripValue)). get_or l p []) are ∙ get_or-map f blocks p e [] in_blocks)
          ∙ sym (more (get_or blocks p e).block.id ∙ ap (λ (b : Bool). f (get_or blocks p e) ++ cond b (strip ∷ []) []) ((id_eq_is_equal strip.target (get_or blocks p e).block.id).1 (sym its)))

      apart : (j : ℕ) → j < length blocks → j ≢ p → strip.target ≡ (get_or blocks j e).block.id → ⊥
      apart j below other same = at (cases_lt j p)
        where
          names : (get_or blocks p e).block.id ≡ (get_or blocks j e).block.id
          names = its ∙ same

          at : (j < p) ⊎ (p ≤ j) → ⊥
          at (inl less) = not_before_itself (get_or blocks j e).block.id (subst (IsBefore (get_or blocks j e).block.id) names (ordered j p e less in_blocks))
          at (inr more) = not_before_itself (get_or blocks p e).block.id (subst (IsBefore (get_or blocks p e).block.id) (sym names) (ordered p j e (omega (arith, more, other)) below))

      by : (j : ℕ) → j < length blocks → (j ≡ p) ⊎ (j ≢ p) → get_or (set groups p y) j [] ≡ get_or (map g blocks) j []
      by j below (inl same) =
          ap (λ n. get_or (set groups p y) n []) same ∙ get_or-set_same groups p y [] (omega (arith, long, in_blocks)) ∙ here
          ∙ sym (get_or-map g blocks p e [] in_blocks) ∙ ap (λ n. get_or (map g blocks) n []) (sym same)
      by j below (inr other) =
          get_or-set_other groups p j y [] other
          ∙ ap (λ (l : List (List StripValue)). get_or l j []) are ∙ get_or-map f blocks j e [] below
          ∙ same_for (get_or blocks j e).block.id (apart j below other)
          ∙ sym (get_or-map g blocks j e [] below)

-- ---- the same, of the vectors that the code has

some_block : (blocks : List LinkedBlock) (p : ℕ) → p < length blocks → LinkedBlock
some_block [] p within = absurd (omega arith)
some_block (b ∷ blocks) p within = b

module _ {V : Type 0} (items : V → List StripValue) (blocks : List LinkedBlock) (strips : List StripValue) (vecs : List V) (are : map items vecs ≡ groups_of strips blocks) where
  pub as_many : length vecs ≡ length blocks
  as_many = sym (length-map vecs items) ∙ ap length are ∙ length-map blocks (λ (b : LinkedBlock). strips_for b.block.id strips)

  -- and one strip is put behind those of its block
  pub pushed_one : (strip : StripValue) (p : ℕ) (old new : V) → AreOrdered blocks → p < length blocks → ((d : LinkedBlock) → (get_or blocks p d).block.id ≡ strip.target) → old ≡ get_or vecs p old
      → items new ≡ items old ++ strip ∷ [] → map items (set vecs p new) ≡ groups_of (strips ++ strip ∷ []) blocks
  pushed_one strip p old new ordered within its at pushed =
      let e = some_block blocks p within in
      let here : items old ≡ get_or (map items vecs) p [] = ap items at ∙ sym (get_or-map items vecs p old [] (omega (arith, within, as_many))) in
      map-set items vecs p new
      ∙ put_one blocks strips strip (map items vecs) (set (map items vecs) p (items new)) p e ordered within (its e) are
      (ap (set (map items vecs) p) (pushed ∙ ap (λ (l : List StripValue). l ++ strip ∷ []) here))
