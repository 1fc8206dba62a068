-- Lemmas on ids, and on how an `Id` is stored.
use Rattle.std.proofs.Common.{◌≡◌, ℕ, ◌-◌, ◌<◌, ◌≤◌, ◌∷◌, List, [], ◌++◌, ◌/◌, ◌^◌, length, take, get_or, refl, ap, sym, ◌∙◌, arith}
use Rattle.std.proofs.Math.ListN.{set}
use Rattle.std.proofs.lemmas.List.{take-set, take-take, get_or-take, length-take-le}
use Rattle.std.proofs.Math.Nat.{div-div-eq-div-mul, pow-succ'}
use Rattle.bf_id.specs.Cube.{Cube, halved, narrowed}
use Rattle.bf_id.specs.Id.{BlockId, child_of, parent_of, octant_of}
use Rattle.bf_id.specs.IdFields.{shown}
use Rattle.bf_id.proofs.Boxes.{same_id}

-- the parent has one octant less
pub shown_parent : (root level : ℕ) (places : List ℕ) → 0 < level → level ≤ length places → shown root (level - 1) places ≡ parent_of (shown root level places)
shown_parent root level places some fits =
    let with : List ℕ → BlockId = λ octants. record { root = root; digits = octants } in
    let long : length (take level places) - 1 ≡ level - 1 = omega (arith, length-take-le level places fits) in
    let shorter : ℕ → BlockId = λ n. record { root = root; digits = take n (take level places) } in
    ap with (sym (take-take (level - 1) level places (omega arith))) ∙ ap shorter (sym long)

-- the last octant stands one place before the level
pub shown_octant : (root level : ℕ) (places : List ℕ) → 0 < level → level ≤ length places → get_or places (level - 1) 0 ≡ octant_of (shown root level places)
shown_octant root level places some fits =
    let long : length (take level places) - 1 ≡ level - 1 = omega (arith, length-take-le level places fits) in
    let at : ℕ → ℕ = λ n. get_or (take level places) n 0 in
    sym (get_or-take level places (level - 1) 0 (omega arith)) ∙ ap at (sym long)

-- what is written behind an id's octants isn't seen
pub shown-set : (root level : ℕ) (places : List ℕ) (x : ℕ) → shown root level (set places level x) ≡ shown root level places
shown-set root level places x =
    let with : List ℕ → BlockId = λ octants. record { root = root; digits = octants } in
    ap with (take-set places level x)

-- each octant halves the edge
pub edge-narrowed : (c : Cube) (octants : List ℕ) → (narrowed c octants).edge ≡ c.edge / 2 ^ length octants
edge-narrowed c [] = omega arith
edge-narrowed c (octant ∷ octants) =
    let over : ℕ → ℕ = λ n. c.edge / n in
    edge-narrowed (halved c octant) octants ∙ (div-div-eq-div-mul c.edge 2 (2 ^ length octants) ∙ ap over (sym (pow-succ' 2 (length octants))))

push-same : (xs ys : List ℕ) (a b : ℕ) → xs ++ a ∷ [] ≡ ys ++ b ∷ [] → (xs ≡ ys) × (a ≡ b)
push-same [] [] a b e = (refl, cc)
push-same [] (y ∷ []) a b e = absurd cc
push-same [] (y ∷ z ∷ ys) a b e = absurd cc
push-same (x ∷ []) [] a b e = absurd cc
push-same (x ∷ w ∷ xs) [] a b e = absurd cc
push-same (x ∷ xs) (y ∷ ys) a b e =
    let tails : xs ++ a ∷ [] ≡ ys ++ b ∷ [] = cc in
    let same = push-same xs ys a b tails in
    (cc, same.1)

-- a block is the child of one block, and towards one octant
pub child_of-same : (p q : BlockId) (a b : ℕ) → child_of p a ≡ child_of q b → (p ≡ q) × (a ≡ b)
child_of-same p q a b e =
    let same = push-same p.digits q.digits a b (ap (λ (i : BlockId). i.digits) e) in
    (same_id p q (ap (λ (i : BlockId). i.root) e) same.0, same.1)
