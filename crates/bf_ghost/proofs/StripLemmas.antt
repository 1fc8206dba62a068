-- What a strip says, and the squares in which strips are laid.
use Rattle.std.proofs.Common.{◌≡◌, ℕ, ◌+◌, ◌*◌, ◌/◌, ◌%◌, ◌<◌, ◌&&◌, List, Bool, true, false, cond, eqb, ltb, get_or, sym, ap, subst, ◌∙◌, arith, inl, inr, length}
use Rattle.std.proofs.Math.Nat.{div-add-mod, mod-lt}
use Rattle.std.proofs.lemmas.Bool.{cases_lt, cases_order, cond-true, cond-false}
use Rattle.std.proofs.lemmas.Bool.Decides.{nat_tests}
use Rattle.std.specs.Cmp.{nat_cmp_is}
use Rattle.std.specs.Ordering.{match_ordering}
use Rattle.std.specs.declared.cmp.Ordering.{Ordering}
use Rattle.std.specs.declared.cmp.Ordering.TheVariants.{Less, Equal, Greater}
use Rattle.bf_face.specs.declared.face.Face.{Face}
use Rattle.bf_face.specs.Face.{opposite_of}
use Rattle.bf_id.specs.declared.shape.Shape.{Shape}
use Rattle.bf_id.specs.Id.{BlockId, level_of, octant_of}
use Rattle.bf_id.specs.Tiling.{IsBalanced}
use Rattle.bf_cells.specs.Grid.{Grid}
use Rattle.bf_cells.specs.Levels.{doubled_square, in_quarter, mean_values, quarter_values, square_at, with_quarter}
use Rattle.bf_cells.specs.Shell.{Walls, face_values, wall_of, wall_place, with_wall}
use Rattle.bf_cells.proofs.LevelLemmas.{get_or-doubled_square, get_or-with_quarter, length-mean_values, length-quarter_values, mean_values-at, quarter_values-at}
use Rattle.bf_cells.proofs.WallLemmas.{get_or-face_values, length-face_values}
use Rattle.bf_case.specs.Beside.{value_beside}
use Rattle.bf_case.specs.Halves.{first_half, second_half, is_opposite, ShareFace}
use Rattle.bf_case.specs.Map.{Leaf, ids_of}
use Rattle.bf_case.proofs.FaceLemmas.{leaf_is, same_shares, coarser_shares, finer_shares, shares_near}
use Rattle.bf_ghost.specs.Strips.{StripValue, laid_square, level_cmp, strip_of, strip_side, strip_values, with_strip}

-- ---- the three cases

pub side_of_coarser : (s : ℕ) (source target : BlockId) → Less ≡ level_cmp source target → strip_side s source target ≡ s / 2
side_of_coarser s source target order = ap (λ o. match_ordering o (s / 2) s (s / 2)) (sym order)

pub side_of_same : (s : ℕ) (source target : BlockId) → Equal ≡ level_cmp source target → strip_side s source target ≡ s
side_of_same s source target order = ap (λ o. match_ordering o (s / 2) s (s / 2)) (sym order)

pub side_of_finer : (s : ℕ) (source target : BlockId) → Greater ≡ level_cmp source target → strip_side s source target ≡ s / 2
side_of_finer s source target order = ap (λ o. match_ordering o (s / 2) s (s / 2)) (sym order)

-- the values of a strip, by how the levels stand
abbrev told_by : Ordering → Grid → BlockId → Face → List ℕ
told_by o h target face =
    match_ordering o (quarter_values h (opposite_of face) (first_half face (octant_of target)) (second_half face (octant_of target)))
    (face_values h (opposite_of face)) (mean_values h (opposite_of face))

pub told_by_coarser : (h : Grid) (source target : BlockId) (face own : Face) (half_a half_b : ℕ) (values : List ℕ) → Less ≡ level_cmp source target
    → own ≡ opposite_of face → half_a ≡ first_half face (octant_of target) → half_b ≡ second_half face (octant_of target)
    → values ≡ quarter_values h own half_a half_b → values ≡ strip_values h source target face
unfolding strip_values
told_by_coarser h source target face own half_a half_b values order is_face is_a is_b read =
    subst (λ o. values ≡ told_by o h target face) order
    (read ∙ ap (λ f. quarter_values h f half_a half_b) is_face ∙ ap (λ m. quarter_values h (opposite_of face) m half_b) is_a
    ∙ ap (quarter_values h (opposite_of face) (first_half face (octant_of target))) is_b)

pub told_by_same : (h : Grid) (source target : BlockId) (face own : Face) (values : List ℕ) → Equal ≡ level_cmp source target
    → own ≡ opposite_of face → values ≡ face_values h own → values ≡ strip_values h source target face
unfolding strip_values
told_by_same h source target face own values order is_face read = subst (λ o. values ≡ told_by o h target face) order (read ∙ ap (face_values h) is_face)

pub told_by_finer : (h : Grid) (source target : BlockId) (face own : Face) (values : List ℕ) → Greater ≡ level_cmp source target
    → own ≡ opposite_of face → values ≡ mean_values h own → values ≡ strip_values h source target face
unfolding strip_values
told_by_finer h source target face own values order is_face read = subst (λ o. values ≡ told_by o h target face) order (read ∙ ap (mean_values h) is_face)

-- a square in which a strip was laid, by how the levels stand
abbrev laid_by : Ordering → ℕ → StripValue → List ℕ → List ℕ
laid_by o side strip old =
    match_ordering o (doubled_square side strip.values) strip.values
    (with_quarter side (first_half strip.face (octant_of strip.source)) (second_half strip.face (octant_of strip.source)) (square_at (side / 2) strip.values) old)

pub laid_by_coarser : (w new : Walls) (strip : StripValue) → Less ≡ level_cmp strip.source strip.target
    → new ≡ with_wall w strip.face (doubled_square w.side strip.values) → new ≡ with_strip w strip
unfolding laid_square
laid_by_coarser w new strip order laid = laid ∙ ap (λ o. with_wall w strip.face (laid_by o w.side strip (wall_of w strip.face))) order

pub laid_by_same : (w new : Walls) (strip : StripValue) → Equal ≡ level_cmp strip.source strip.target
    → new ≡ with_wall w strip.face strip.values → new ≡ with_strip w strip
unfolding laid_square
laid_by_same w new strip order laid = laid ∙ ap (λ o. with_wall w strip.face (laid_by o w.side strip (wall_of w strip.face))) order

pub laid_by_finer : (w new : Walls) (strip : StripValue) (half_a half_b : ℕ) → Greater ≡ level_cmp strip.source strip.target
    → half_a ≡ first_half strip.face (octant_of strip.source) → half_b ≡ second_half strip.face (octant_of strip.source)
    → new ≡ with_wall w strip.face (with_quarter w.side half_a half_b (square_at (w.side / 2) strip.values) (wall_of w strip.face)) → new ≡ with_strip w strip
unfolding laid_square
laid_by_finer w new strip half_a half_b order is_a is_b laid =
    let square : ℕ → ℕ → List ℕ = λ a b. with_quarter w.side a b (square_at (w.side / 2) strip.values) (wall_of w strip.face) in
    laid ∙ ap (λ a. with_wall w strip.face (square a half_b)) is_a ∙ ap (λ b. with_wall w strip.face (square (first_half strip.face (octant_of strip.source)) b)) is_b
    ∙ ap (λ o. with_wall w strip.face (laid_by o w.side strip (wall_of w strip.face))) order

-- a strip by its parts
pub same_parts : (strip : StripValue) (source target : BlockId) (face : Face) (values : List ℕ) → source ≡ strip.source → target ≡ strip.target → face ≡ strip.face
    → values ≡ strip.values → ◌≡◌ {A = StripValue} (record { source = source; target = target; face = face; values = values }) strip
same_parts strip source target face values is_source is_target is_face are =
    ap (λ i. record { source = i; target = target; face = face; values = values }) is_source
    ∙ ap (λ i. record { source = strip.source; target = i; face = face; values = values }) is_target
    ∙ ap (λ f. record { source = strip.source; target = strip.target; face = f; values = values }) is_face
    ∙ ap (λ l. record { source = strip.source; target = strip.target; face = strip.face; values = l }) are

-- ---- what a strip says

-- how many values a strip has
pub length-strip_values : (h : Grid) (source target : BlockId) (face : Face)
    → length (strip_values h source target face) ≡ strip_side h.side source target * strip_side h.side source target
unfolding strip_values
length-strip_values h source target face = by (level_cmp source target)
  where
    by : (o : Ordering) → length (told_by o h target face) ≡ match_ordering o (h.side / 2) h.side (h.side / 2) * match_ordering o (h.side / 2) h.side (h.side / 2)
    by Less = length-quarter_values h (opposite_of face) (first_half face (octant_of target)) (second_half face (octant_of target))
    by Equal = length-face_values h (opposite_of face)
    by Greater = length-mean_values h (opposite_of face)

-- the quarter of a face in which a finer block lies
in_the_quarter : (x y : ℕ) (t : Bool) → x < y → cond (ltb x y) t true ≡ true → t ≡ true
in_the_quarter x y t fine holds = grind (arith, nat_tests)

out_of_it : (x y : ℕ) (t : Bool) → cond (ltb x y) t true ≡ false → (x < y) × (t ≡ false)
out_of_it x y t fails =
    elim (cases_lt x y) [
      | inl fine ↦ (fine, grind (arith, nat_tests))
      | inr coarse ↦ let wrong : ⊥ = grind (arith, nat_tests) in absurd wrong
    ]

-- the square beside a face in which a strip was laid holds what lies there in the map
says_here : (shape : Shape) (leaves : List Leaf) (i j : BlockId) (g h : Grid) (face : Face) (old : List ℕ) (a b : ℕ)
    → ShareFace shape h.side leaves (i, g) face (j, h) → IsBalanced shape (ids_of leaves) → a < h.side → b < h.side
    → is_opposite h.side face i j a b ≡ true
    → get_or (laid_square h.side (strip_of (j, h) face i) old) (wall_place h.side a b) 0 ≡ value_beside shape leaves i g face a b
unfolding laid_square strip_values
says_here shape leaves i j g h face old a b are balanced a_in b_in part =
    let other = leaf_is shape h.side leaves j h are.domain are.map are.other_in in
    let even = other.even in
    let low = other.low in
    let s = h.side in
    let half = s / 2 in
    let pos : 0 < half = omega arith in
    let n = opposite_of face in
    let near = shares_near shape s leaves i j g h face are balanced in
    let own_a = first_half face (octant_of i) in
    let own_b = second_half face (octant_of i) in
    let its_a = first_half face (octant_of j) in
    let its_b = second_half face (octant_of j) in
    let told : Ordering → StripValue = λ o. record { source = j; target = i; face = face; values = told_by o h i face } in
    let Says : Ordering → Type 0 = λ o. get_or (laid_by o s (told o) old) (wall_place s a b) 0 ≡ value_beside shape leaves i g face a b in
    elim (cases_order (level_of j) (level_of i)) [
      | inl same ↦
          subst Says (nat_cmp_is (level_of j) (level_of i) Equal same)
          (get_or-face_values h n a b a_in b_in ∙ sym (same_shares shape s leaves i j g h face a b are same a_in b_in))
      | inr (inl coarse) ↦
          let level : level_of j + 1 ≡ level_of i = let most = near.0 in omega arith in
          subst Says (nat_cmp_is (level_of j) (level_of i) Less coarse)
          (get_or-doubled_square s (quarter_values h n own_a own_b) a b a_in b_in
          ∙ quarter_values-at h n own_a own_b (a / 2) (b / 2) (omega arith) (omega arith)
          ∙ sym (coarser_shares shape s leaves i j g h face a b are level a_in b_in))
      | inr (inr fine) ↦
          let level : level_of j ≡ level_of i + 1 = let most = near.1 in omega arith in
          let within : in_quarter s its_a its_b a b ≡ true = in_the_quarter (level_of i) (level_of j) (in_quarter s its_a its_b a b) fine part in
          let parts = both_parts (a / half) (b / half) its_a its_b within in
          let whole_a : its_a * half + a % half ≡ a = ap (λ q. q * half + a % half) (sym parts.0) ∙ (let m = div-add-mod a half in omega arith) in
          let whole_b : its_b * half + b % half ≡ b = ap (λ q. q * half + b % half) (sym parts.1) ∙ (let m = div-add-mod b half in omega arith) in
          subst Says (nat_cmp_is (level_of j) (level_of i) Greater fine)
          (get_or-with_quarter s its_a its_b (square_at half (mean_values h n)) old a b a_in b_in
          ∙ cond-true (in_quarter s its_a its_b a b) _ _ within
          ∙ mean_values-at h n (a % half) (b % half) (mod-lt a pos) (mod-lt b pos)
          ∙ sym (finer_shares shape s leaves i j g h face (a % half) (b % half) are level (mod-lt a pos) (mod-lt b pos))
          ∙ ap (λ m. value_beside shape leaves i g face m (its_b * half + b % half)) whole_a ∙ ap (value_beside shape leaves i g face a) whole_b)
    ]
  where
    both_parts : (p q m n : ℕ) → (eqb p m && eqb q n) ≡ true → (p ≡ m) × (q ≡ n)
    both_parts p q m n holds = grind (arith, nat_tests)

pub strip_says : (shape : Shape) (side : ℕ) (leaves : List Leaf) (i j : BlockId) (g h : Grid) (face : Face) (old : List ℕ) (a b : ℕ)
    → ShareFace shape side leaves (i, g) face (j, h) → IsBalanced shape (ids_of leaves) → a < side → b < side
    → is_opposite side face i j a b ≡ true
    → get_or (laid_square side (strip_of (j, h) face i) old) (wall_place side a b) 0 ≡ value_beside shape leaves i g face a b
strip_says shape side leaves i j g h face old a b are balanced a_in b_in part =
    let other = leaf_is shape side leaves j h are.domain are.map are.other_in in
    let P : ℕ → Type 0 = λ s. ShareFace shape s leaves (i, g) face (j, h) → a < s → b < s → is_opposite s face i j a b ≡ true
    → get_or (laid_square s (strip_of (j, h) face i) old) (wall_place s a b) 0 ≡ value_beside shape leaves i g face a b in
    subst P other.fits (λ are' a_in' b_in' part'. says_here shape leaves i j g h face old a b are' balanced a_in' b_in' part') are a_in b_in part

-- and stays beside cells at which the strip doesn't lie
pub strip_keeps : (side : ℕ) (strip : StripValue) (old : List ℕ) (a b : ℕ) → a < side → b < side
    → is_opposite side strip.face strip.target strip.source a b ≡ false
    → get_or (laid_square side strip old) (wall_place side a b) 0 ≡ get_or old (wall_place side a b) 0
unfolding laid_square
strip_keeps side strip old a b a_in b_in out =
    let its_a = first_half strip.face (octant_of strip.source) in
    let its_b = second_half strip.face (octant_of strip.source) in
    let apart = out_of_it (level_of strip.target) (level_of strip.source) (in_quarter side its_a its_b a b) out in
    let Keeps : Ordering → Type 0 = λ o. get_or (laid_by o side strip old) (wall_place side a b) 0 ≡ get_or old (wall_place side a b) 0 in
    subst Keeps (nat_cmp_is (level_of strip.source) (level_of strip.target) Greater apart.0)
    (get_or-with_quarter side its_a its_b (square_at (side / 2) strip.values) old a b a_in b_in ∙ cond-false (in_quarter side its_a its_b a b) _ _ apart.1)
