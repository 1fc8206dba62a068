-- What one block gives, by what becomes of it.
use Rattle.std.proofs.Common.{◌≡◌, ℕ, ◌<◌, ◌∙◌, List, [], ◌∷◌, ◌++◌, map, flat_map, All, Contains, get_or, refl, sym, ap, subst, append_assoc, append-nil}
use Rattle.std.proofs.lemmas.Grind.{flat_map-append}
use Rattle.std.proofs.lemmas.List.{map-append}
use Rattle.std.proofs.lemmas.List.Elements.{Contains-get_or}
use Rattle.bf_id.specs.Id.{BlockId, level_of, parent_of}
use Rattle.bf_id.proofs.Tilings.{Contains-one}
use Rattle.bf_case.specs.declared.target.Target.{Target}
use Rattle.bf_case.specs.declared.target.Target.TheVariants.{Keep, Refine, Merge}
use Rattle.bf_case.proofs.ListLemmas.{Contains-map}
use Rattle.bf_block.specs.declared.cargo.Cargo.{Cargo}
use Rattle.bf_block.specs.declared.cargo.Cargo.TheVariants.{Whole, Piece}
use Rattle.bf_block.specs.Block.{BlockValue, IsRegriddedTo, kept_block, split_blocks}
use Rattle.bf_block.specs.Eighth.{EighthValue, eighth_of}
use Rattle.bf_migrate.specs.Giving.{Gift, whole, gifts_by, gifts_of, target_of_block, sent_to, all_sent}
use Rattle.bf_migrate.specs.Targets.{ids_in, Tell}

given : (rank : BlockId → ℕ) (b : BlockValue) (t : Target) → target_of_block b ≡ t → map (sent_to rank) (gifts_by t b) ≡ map (sent_to rank) (gifts_of b)
given rank b t is = ap (λ (u : Target). map (sent_to rank) (gifts_by u b)) (sym is)

pub kept_given : (rank : BlockId → ℕ) (b kept : BlockValue) (i : BlockId) (r : ℕ) → i ≡ b.id → r ≡ rank i → kept ≡ kept_block b → target_of_block b ≡ Keep
    → (r, Whole kept) ∷ [] ≡ map (sent_to rank) (gifts_of b)
kept_given rank b kept i r id ranked is keeps =
    ap (λ x. (x, Whole kept) ∷ []) (ranked ∙ ap rank id) ∙ ap (λ (x : BlockValue). (rank b.id, Whole x) ∷ []) is ∙ given rank b Keep keeps

pub eighth_given : (rank : BlockId → ℕ) (b : BlockValue) (e : EighthValue) (i : BlockId) (r : ℕ) → i ≡ b.id → r ≡ rank (parent_of i) → e ≡ eighth_of b → target_of_block b ≡ Merge
    → (r, Piece e) ∷ [] ≡ map (sent_to rank) (gifts_of b)
eighth_given rank b e i r id ranked is merges =
    ap (λ x. (x, Piece e) ∷ []) (ranked ∙ ap (λ j. rank (parent_of j)) id) ∙ ap (λ (x : EighthValue). (rank (parent_of b.id), Piece x) ∷ []) is ∙ given rank b Merge merges

all_whole : (rank : BlockId → ℕ) (bs : List BlockValue) → map (λ (b : BlockValue). sent_to rank (whole b)) bs ≡ map (sent_to rank) (map whole bs)
all_whole rank [] = refl
all_whole rank (b ∷ bs) = ap (λ xs. sent_to rank (whole b) ∷ xs) (all_whole rank bs)

pub children_given : (rank : BlockId → ℕ) (b : BlockValue) (children : List BlockValue) → children ≡ split_blocks b → target_of_block b ≡ Refine
    → map (λ (b : BlockValue). sent_to rank (whole b)) children ≡ map (sent_to rank) (gifts_of b)
children_given rank b children split refined =
    all_whole rank children ∙ ap (λ bs. map (sent_to rank) (map whole bs)) split ∙ given rank b Refine refined

pub children_told : (b : BlockValue) (targets : List (BlockId × ℕ)) (children : List BlockValue) → Tell b targets → children ≡ split_blocks b → target_of_block b ≡ Refine
    → All (λ (b : BlockValue). Contains (ids_in targets) b.id) children
children_told b targets children tell split refined = λ k d within.
    let child : BlockValue = get_or children k d in
    tell.all (whole child) (subst (λ (t : Target). Contains (gifts_by t b) (whole child)) (sym refined)
    (Contains-map whole (split_blocks b) child (subst (λ (bs : List BlockValue). Contains bs child) split (Contains-get_or children k d within))))

-- a block that isn't kept, and whose parent gets nothing, is refined
pub must_refine : (b : BlockValue) (targets : List (BlockId × ℕ)) → Tell b targets → (Contains (ids_in targets) b.id → ⊥)
    → (0 < level_of b.id → Contains (ids_in targets) (parent_of b.id) → ⊥) → target_of_block b ≡ Refine
must_refine b targets tell leaves none = by (target_of_block b) refl
  where
    by : (t : Target) → target_of_block b ≡ t → target_of_block b ≡ Refine
    by Keep e = absurd (leaves (tell.all (whole (kept_block b)) (subst (λ (t : Target). Contains (gifts_by t b) (whole (kept_block b))) (sym e) (Contains-one (whole (kept_block b))))))
    by Refine e = e
    by Merge e =
        let gift : Gift = (parent_of b.id, Piece (eighth_of b)) in
        absurd (none (tell.above e) (tell.all gift (subst (λ (t : Target). Contains (gifts_by t b) gift) (sym e) (Contains-one gift))))

pub regridded : (b : BlockValue) (targets : List (BlockId × ℕ)) (t : Target) → Tell b targets → target_of_block b ≡ t → IsRegriddedTo t b.case b.point b.id
regridded b targets t tell is = record { regrids = tell.regrids; fresh = tell.fresh; target_is = is }

-- ---- in loops

-- what the children so far were given, with one more
pub one_more_child : (rank : BlockId → ℕ) (old cargo new : List (ℕ × Cargo)) (yielded : List BlockValue) (child : BlockValue) (i : BlockId) (r : ℕ)
    → cargo ≡ old ++ map (λ (b : BlockValue). sent_to rank (whole b)) yielded → new ≡ cargo ++ (r, Whole child) ∷ [] → r ≡ rank i → i ≡ child.id
    → new ≡ old ++ map (λ (b : BlockValue). sent_to rank (whole b)) (yielded ++ child ∷ [])
one_more_child rank old cargo new yielded child i r so_far pushed ranked id =
    let f : BlockValue → ℕ × Cargo = λ b. sent_to rank (whole b) in
    pushed ∙ ap (λ x. cargo ++ (x, Whole child) ∷ []) (ranked ∙ ap rank id) ∙ ap (λ xs. xs ++ f child ∷ []) so_far
    ∙ append_assoc old (map f yielded) (f child ∷ []) ∙ ap (λ xs. old ++ xs) (sym (map-append f yielded (child ∷ [])))

-- what the blocks so far gave, with one more
pub one_more_block : (rank : BlockId → ℕ) (cargo new : List (ℕ × Cargo)) (yielded : List BlockValue) (block : BlockValue)
    → cargo ≡ all_sent rank yielded → new ≡ cargo ++ map (sent_to rank) (gifts_of block) → new ≡ all_sent rank (yielded ++ block ∷ [])
one_more_block rank cargo new yielded block so_far given =
    let f : BlockValue → List (ℕ × Cargo) = λ b. map (sent_to rank) (gifts_of b) in
    given ∙ ap (λ xs. xs ++ f block) so_far ∙ sym (flat_map-append f yielded (block ∷ []) ∙ ap (λ xs. flat_map f yielded ++ xs) (append-nil (f block)))
