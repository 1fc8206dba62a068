-- A row of cells that is written place by place.
use Rattle.std.proofs.Common.{◌≡◌, ℕ, ◌+◌, ◌-◌, ◌<◌, ◌≤◌, arith, ap, sym, ◌∙◌, List, length, get_or, set, inl, inr}
use Rattle.std.proofs.lemmas.List.{get_or-set_same, get_or-set_other, length-set}
use Rattle.std.proofs.lemmas.Bool.{cases_eq}
use Rattle.std.proofs.lemmas.Bool.Decides.{nat_tests}
use Rattle.bf_cells.specs.Kernel.{relaxed}
use Rattle.bf_cells.specs.Rows.{row_cell, inside_cell}

-- one more place of a list that holds a function from place 1 on
pub set_more : (f : ℕ → ℕ) (xs : List ℕ) (i v : ℕ) → i < length xs → v ≡ f i
    → ((j : ℕ) → 0 < j → j < i → get_or xs j 0 ≡ f j) → (j : ℕ) → 0 < j → j < i + 1 → get_or (set xs i v) j 0 ≡ f j
set_more f xs i v within value before j pos below =
    elim (cases_eq j i) [
      | inl same ↦ ap (λ n. get_or (set xs i v) n 0) same ∙ get_or-set_same xs i v 0 within ∙ value ∙ ap f (sym same)
      | inr other ↦ get_or-set_other xs i j v 0 other ∙ before j pos (omega arith)
    ]

-- the inside of a row and its two ends make the row
pub row_done : (cells y_below y_above z_below z_above into : List ℕ) (left right first last : ℕ)
    → 2 ≤ length cells → length into ≡ length cells
    → ((k : ℕ) → 0 < k → k + 1 < length cells → get_or into k 0 ≡ inside_cell cells y_below y_above z_below z_above k)
    → first ≡ relaxed (get_or cells 0 0) left (get_or cells 1 0) (get_or y_below 0 0) (get_or y_above 0 0) (get_or z_below 0 0) (get_or z_above 0 0)
    → (let e = length cells - 1 in last ≡ relaxed (get_or cells e 0) (get_or cells (e - 1) 0) right (get_or y_below e 0) (get_or y_above e 0) (get_or z_below e 0) (get_or z_above e 0))
    → (k : ℕ) → k < length cells → get_or (set (set into 0 first) (length cells - 1) last) k 0 ≡ row_cell cells left right y_below y_above z_below z_above k
unfolding row_cell inside_cell
row_done cells y_below y_above z_below z_above into left right first last two full inside at_first at_last k below =
    grind (arith, nat_tests, get_or-set_same, get_or-set_other, length-set)

-- one more place of a list that holds a function
pub set_next : (f : ℕ → ℕ) (xs : List ℕ) (i v : ℕ) → i < length xs → v ≡ f i
    → ((j : ℕ) → j < i → get_or xs j 0 ≡ f j) → (j : ℕ) → j < i + 1 → get_or (set xs i v) j 0 ≡ f j
set_next f xs i v within value before j below =
    elim (cases_eq j i) [
      | inl same ↦ ap (λ n. get_or (set xs i v) n 0) same ∙ get_or-set_same xs i v 0 within ∙ value ∙ ap f (sym same)
      | inr other ↦ get_or-set_other xs i j v 0 other ∙ before j (omega arith)
    ]
