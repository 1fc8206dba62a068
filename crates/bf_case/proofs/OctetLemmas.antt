-- Parents and octants of ids.
use Rattle.std.proofs.Common.{◌≡◌, ℕ, ◌+◌, ◌-◌, ◌<◌, [], ◌∷◌, ◌++◌, length, take, get_or, refl, sym, ap, ◌∙◌, arith}
use Rattle.std.proofs.Math.Seq.{take-append_seam, take-length}
use Rattle.std.proofs.lemmas.List.{get_or-append_right, length-append, take_more}
use Rattle.bf_id.specs.Id.{BlockId, IsId, level_of, child_of, parent_of, octant_of}
use Rattle.bf_id.proofs.Boxes.{same_id, level-child}

-- a child's parent, and its octant
pub parent_of-child : (p : BlockId) (octant : ℕ) → parent_of (child_of p octant) ≡ p
parent_of-child p octant =
    let shorter : length (p.digits ++ octant ∷ []) - 1 ≡ length p.digits = omega (arith, length-append p.digits (octant ∷ [])) in
    same_id (parent_of (child_of p octant)) p refl (ap (λ n. take n (p.digits ++ octant ∷ [])) shorter ∙ take-append_seam p.digits (octant ∷ []))

pub octant_of-child : (p : BlockId) (octant : ℕ) → octant_of (child_of p octant) ≡ octant
octant_of-child p octant =
    let shorter : length (p.digits ++ octant ∷ []) - 1 ≡ length p.digits = omega (arith, length-append p.digits (octant ∷ [])) in
    let none : length p.digits - length p.digits ≡ 0 = omega arith in
    ap (λ n. get_or (p.digits ++ octant ∷ []) n 0) shorter
    ∙ get_or-append_right p.digits (octant ∷ []) (length p.digits) (length p.digits) 0 refl (omega arith)
    ∙ ap (λ n. get_or (octant ∷ []) n 0) none

-- a block below its root is the child of its parent
pub child_of_parent : (i : BlockId) → 0 < level_of i → i ≡ child_of (parent_of i) (octant_of i)
child_of_parent i deep =
    let last : length i.digits - 1 + 1 ≡ length i.digits = omega arith in
    let whole : take (length i.digits - 1 + 1) i.digits ≡ i.digits = ap (λ n. take n i.digits) last ∙ take-length i.digits in
    same_id i (child_of (parent_of i) (octant_of i)) refl (sym whole ∙ take_more i.digits (length i.digits - 1) 0 (omega arith))

-- its octant is one of eight
pub octant_small : (i : BlockId) → IsId i → 0 < level_of i → octant_of i < 8
octant_small i is deep = is.octal (length i.digits - 1) 0 (omega arith)

-- and lies one level below it
pub level-parent : (i : BlockId) → i ≡ child_of (parent_of i) (octant_of i) → level_of (parent_of i) + 1 ≡ level_of i
level-parent i child = sym (level-child (parent_of i) (octant_of i)) ∙ sym (ap level_of child)
