-- Strips as they are told, and as they are put to the blocks that they are for.
use Rattle.std.proofs.Common.{◌≡◌, ℕ, ◌+◌, ◌<◌, Bool, true, false, cond, List, [], ◌∷◌, ◌++◌, length, map, take, get_or, Option, Some, None, filter, refl, sym, ap, ◌∙◌}
use Rattle.std.specs.Prelude.{◌==◌, ◌||◌}
use Rattle.std.specs.List.{filter_map, flat_map, list_any}
use Rattle.std.proofs.lemmas.List.{append-nil, append_assoc, map-append, take_more}
use Rattle.std.proofs.lemmas.List.Elements.{filter-append, filter_map-append}
use Rattle.std.proofs.lemmas.Grind.{flat_map-append}
use Rattle.bf_id.specs.declared.shape.Shape.{Shape}
use Rattle.bf_case.specs.Map.{Leaf}
use Rattle.bf_block.specs.Block.{leaf_of}
use Rattle.bf_links.specs.Links.{is_owner}
use Rattle.bf_links.specs.declared.link.Link.{Link}
use Rattle.bf_ghost.specs.Strips.{StripValue}
use Rattle.bf_ghost.specs.Telling.{strip_between, strips_from}
use Rattle.bf_msg.specs.declared.linked_block.LinkedBlock.{LinkedBlock}
use Rattle.bf_forest.specs.Rounds.{strips_of, strips_to}

-- what a leaf tells those of some links that a rank owns
abbrev pub told_by : Shape → (to : ℕ) → Leaf → List Link → List StripValue
told_by shape to leaf links = strips_from shape leaf (map (λ (link : Link). link.id) (filter (λ (link : Link). link.owner == to) links))

last_told : (shape : Shape) (to : ℕ) (leaf : Leaf) (links : List Link) (k : ℕ) (link : Link) → k < length links → link ≡ get_or links k link
    → told_by shape to leaf (take (k + 1) links) ≡ told_by shape to leaf (take k links) ++ told_by shape to leaf (link ∷ [])
last_told shape to leaf links k link within is =
    ap (told_by shape to leaf) (take_more links k link within ∙ ap (λ (l : Link). take k links ++ l ∷ []) (sym is))
    ∙ ap (λ (ls : List Link). strips_from shape leaf (map (λ (l : Link). l.id) ls)) (filter-append (λ (l : Link). l.owner == to) (take k links) (link ∷ []))
    ∙ ap (strips_from shape leaf) (map-append (λ (l : Link). l.id) (filter (λ (l : Link). l.owner == to) (take k links)) (filter (λ (l : Link). l.owner == to) (link ∷ [])))
    ∙ filter_map-append (strip_between shape leaf) (map (λ (l : Link). l.id) (filter (λ (l : Link). l.owner == to) (take k links))) (map (λ (l : Link). l.id) (filter (λ (l : Link). l.owner == to) (link ∷ [])))

module _ (shape : Shape) (to : ℕ) (leaf : Leaf) (links : List Link) (k : ℕ) (link : Link) (within : k < length links) (is : link ≡ get_or links k link) (before strips next : List StripValue)
    (so_far : strips ≡ before ++ told_by shape to leaf (take k links)) where
  -- the link is to a leaf of another rank
  pub passed_by : (link.owner == to) ≡ false → next ≡ strips → next ≡ before ++ told_by shape to leaf (take (k + 1) links)
  passed_by other same =
      same ∙ so_far
      ∙ ap (λ l. before ++ l) (sym (last_told shape to leaf links k link within is
      ∙ ap (λ (b : Bool). told_by shape to leaf (take k links) ++ strips_from shape leaf (map (λ (l : Link). l.id) (cond b (link ∷ []) []))) other
      ∙ append-nil (told_by shape to leaf (take k links))))

  -- or to one that shares no face
  pub nothing_told : (link.owner == to) ≡ true → strip_between shape leaf link.id ≡ None → next ≡ strips → next ≡ before ++ told_by shape to leaf (take (k + 1) links)
  nothing_told its none same =
      same ∙ so_far
      ∙ ap (λ l. before ++ l) (sym (last_told shape to leaf links k link within is
      ∙ ap (λ (b : Bool). told_by shape to leaf (take k links) ++ strips_from shape leaf (map (λ (l : Link). l.id) (cond b (link ∷ []) []))) its
      ∙ ap (λ (o : Option StripValue). told_by shape to leaf (take k links) ++ filter_map (λ (p : Option StripValue). p) (o ∷ [])) none
      ∙ append-nil (told_by shape to leaf (take k links))))

  -- or a strip is told
  pub strip_told : (strip : StripValue) → (link.owner == to) ≡ true → strip_between shape leaf link.id ≡ Some strip → next ≡ strips ++ strip ∷ [] → next ≡ before ++ told_by shape to leaf (take (k + 1) links)
  strip_told strip its some pushed =
      pushed
      ∙ ap (λ l. l ++ strip ∷ []) so_far
      ∙ append_assoc before (told_by shape to leaf (take k links)) (strip ∷ [])
      ∙ ap (λ l. before ++ l) (sym (last_told shape to leaf links k link within is
      ∙ ap (λ (b : Bool). told_by shape to leaf (take k links) ++ strips_from shape leaf (map (λ (l : Link). l.id) (cond b (link ∷ []) []))) its
      ∙ ap (λ (o : Option StripValue). told_by shape to leaf (take k links) ++ filter_map (λ (p : Option StripValue). p) (o ∷ [])) some))

-- where none passes a test, none is kept
none_kept : {X : Type 0} (test : X → Bool) (xs : List X) → list_any test xs ≡ false → filter test xs ≡ []
none_kept test [] none = refl
none_kept {X = X} test (x ∷ xs) none = at (test x) (none_kept test xs) none
  where
    at : (b : Bool) → (list_any test xs ≡ false → filter test xs ≡ []) → (b || list_any test xs) ≡ false → cond b (x ∷ filter test xs) (filter test xs) ≡ []
    at true later none = absurd (cc)
    at false later none = later none

-- a block that is linked with none of a rank tells it nothing
pub untold : (to : ℕ) (b : LinkedBlock) (before : List StripValue) → is_owner b.links to ≡ false → before ≡ before ++ strips_of to b
untold to b before none =
    sym (ap (λ (links : List Link). before ++ strips_from b.block.case.roots (leaf_of b.block) (map (λ (link : Link). link.id) links)) (none_kept (λ (link : Link). link.owner == to) b.links none) ∙ append-nil before)

-- one block more that tells the blocks of a rank
pub block_told : (to : ℕ) (blocks : List LinkedBlock) (k : ℕ) (linked : LinkedBlock) (before strips next : List StripValue) → k < length blocks → linked ≡ get_or blocks k linked
    → next ≡ strips ++ strips_of to linked → strips ≡ before ++ strips_to to (take k blocks) → next ≡ before ++ strips_to to (take (k + 1) blocks)
unfolding strips_to
block_told to blocks k linked before strips next within is told so_far =
    told
    ∙ ap (λ (l : List StripValue). l ++ strips_of to linked) so_far
    ∙ append_assoc before (flat_map (strips_of to) (take k blocks)) (strips_of to linked)
    ∙ ap (λ (l : List StripValue). before ++ (flat_map (strips_of to) (take k blocks) ++ l)) (sym (append-nil (strips_of to linked)))
    ∙ ap (λ (l : List StripValue). before ++ l) (sym (flat_map-append (strips_of to) (take k blocks) (linked ∷ [])))
    ∙ ap (λ (l : List LinkedBlock). before ++ flat_map (strips_of to) l) (ap (λ (b : LinkedBlock). take k blocks ++ b ∷ []) is ∙ sym (take_more blocks k linked within))
