-- Grids that are made of a function of the coordinates, and grids with equal cells.
use Rattle.std.proofs.Common.{◌≡◌, ℕ, ◌*◌, ◌/◌, ◌%◌, ◌^◌, ◌<◌, ◌≤◌, arith, ap, sym, ◌∙◌, zero-add, refl, subst, List, length, get_or, lit<, inl, inr, replicate, Bool, true, false, cond}
use Rattle.std.proofs.lemmas.List.FromFn.{length-map-range_with_len, get_or-map-range_with_len, fill_by_all}
use Rattle.std.proofs.lemmas.List.{get_or_past, length-replicate, get_or-replicate}
use Rattle.std.proofs.lemmas.List.Elements.{All-from_get_or}
use Rattle.std.proofs.lemmas.Bool.{cases_lt}
use Rattle.bf_cells.specs.Grid.{Grid, IsGrid, place, cell_at, table, filled_with}
use Rattle.bf_cells.proofs.PlaceLemmas.{place_below, place-x, place-y, place-z, coordinates}

pub side-table : (s : ℕ) (f : ℕ → ℕ → ℕ → ℕ) → (table s f).side ≡ s
unfolding table
side-table s f = refl

pub length-table : (s : ℕ) (f : ℕ → ℕ → ℕ → ℕ) → length (table s f).values ≡ s * s * s
unfolding table
length-table s f = length-map-range_with_len (λ k. f (k % s) (k / s % s) (k / (s * s))) 0 (s * s * s)

-- a cell of a table
pub cell_at-table : (s : ℕ) (f : ℕ → ℕ → ℕ → ℕ) (x y z : ℕ) → x < s → y < s → z < s → cell_at (table s f) x y z ≡ f x y z
unfolding table
cell_at-table s f x y z hx hy hz =
    let k = place s x y z in
    let made = get_or-map-range_with_len (λ k. f (k % s) (k / s % s) (k / (s * s))) 0 (s * s * s) k k 0
    (place_below s x y z hx hy hz) (zero-add k) in
    let ex = place-x s x y z hx in
    let ey = place-y s x y z hx hy in
    let ez = place-z s x y z hx hy in
    made ∙ ap (λ a. f a (k / s % s) (k / (s * s))) ex ∙ ap (λ a. f x a (k / (s * s))) ey ∙ ap (λ a. f x y a) ez

-- a full grid with the cells of a function is its table
pub table_is : (g : Grid) (f : ℕ → ℕ → ℕ → ℕ) → length g.values ≡ g.side * g.side * g.side
    → ((x y z : ℕ) → x < g.side → y < g.side → z < g.side → cell_at g x y z ≡ f x y z) → g ≡ table g.side f
unfolding table
table_is g f full same =
    let s = g.side in
    let cells : (k : ℕ) → k < s * s * s → get_or g.values k 0 ≡ f (k % s) (k / s % s) (k / (s * s)) = λ k h.
    let at = coordinates s k h in
    ap (λ n. get_or g.values n 0) (sym at.is) ∙ same (k % s) (k / s % s) (k / (s * s)) at.x_below at.y_below at.z_below in
    ap (λ v. record { side = s; values = v }) (fill_by_all (λ k. f (k % s) (k / s % s) (k / (s * s))) g.values (s * s * s) 0 full cells)

-- tables of functions that agree below the side
pub same_tables : (s : ℕ) (f g : ℕ → ℕ → ℕ → ℕ)
    → ((x y z : ℕ) → x < s → y < s → z < s → f x y z ≡ g x y z) → table s f ≡ table s g
same_tables s f g same =
    let t = table s f in
    let P : ℕ → Type 0 = λ n. ((x y z : ℕ) → x < n → y < n → z < n → cell_at t x y z ≡ g x y z) → t ≡ table n g in
    let whole : P t.side = table_is t g (rw side-table (length-table s f)) in
    subst P (side-table s f) whole (λ x y z hx hy hz. cell_at-table s f x y z hx hy hz ∙ same x y z hx hy hz)

-- a table of small values is a grid
pub IsGrid-table : (s : ℕ) (f : ℕ → ℕ → ℕ → ℕ) → s % 2 ≡ 0 → 2 ≤ s → s ≤ 16
    → ((x y z : ℕ) → x < s → y < s → z < s → f x y z < 2 ^ 32) → IsGrid (table s f)
unfolding table
IsGrid-table s f even low high small = record {
  even = even;
  low = low;
  high = high;
  full = length-table s f;
  small = All-from_get_or (λ v. v < 2 ^ 32) (table s f).values 0 (λ k h.
      let within : k < s * s * s = omega (arith, length-table s f) in
      let at = coordinates s k within in
      let made = get_or-map-range_with_len (λ k. f (k % s) (k / s % s) (k / (s * s))) 0 (s * s * s) k k 0 within (zero-add k) in
      omega (arith, made, small (k % s) (k / s % s) (k / (s * s)) at.x_below at.y_below at.z_below));
}

-- each value has 32 bits; past the end it counts as 0
pub cell_small : (g : Grid) → IsGrid g → (x y z : ℕ) → cell_at g x y z < 2 ^ 32
cell_small g valid x y z =
    let k = place g.side x y z in
    elim (cases_lt k (length g.values)) [
      | inl within ↦ valid.small k 0 within
      | inr past ↦ rw (get_or_past g.values k 0 past) (lit< tt)
    ]

-- a list of one value many times is the grid that is filled with it
pub filled_is : (s v : ℕ) (values : List ℕ) → values ≡ replicate (s * s * s) v → record { side = s; values = values } ≡ filled_with s v
filled_is s v values e =
    let g : Grid = record { side = s; values = values } in
    table_is g (λ _ _ _. v) (ap length e ∙ length-replicate (s * s * s) v) (λ x y z hx hy hz.
    ap (λ l. get_or l (place s x y z) 0) e ∙ get_or-replicate (s * s * s) (place s x y z) v 0 (place_below s x y z hx hy hz))

-- a choice of two small values is small
pub cond_small : (b : Bool) (m n : ℕ) → m < 2 ^ 32 → n < 2 ^ 32 → cond b m n < 2 ^ 32
cond_small b m n hm hn = elim b as (λ v. cond v m n < 2 ^ 32) [ true ↦ hm | false ↦ hn ]
