-- Which headings are missing, told by the one that is to come next.
use Rattle.std.proofs.Common.{◌≡◌, ℕ, ◌≤◌, true, ltb, refl, arith}
use Rattle.std.proofs.lemmas.Bool.{agree_below, agree_below_at}
use Rattle.bf_text.specs.declared.form.Form.{Form}
use Rattle.bf_text.specs.declared.form.Form.TheVariants as form
use Rattle.bf_text.specs.Faults.{is_missing}
use Rattle.bf_text.specs.Drafts.{came_below, due_place}

agree_at : (f : Form) → agree_below (λ next. ltb next (due_place f)) (λ next. is_missing (came_below next) f) 14 ≡ true
agree_at form.Forest = refl
agree_at form.Roots = refl
agree_at form.Side = refl
agree_at form.Levels = refl
agree_at form.Ranks = refl
agree_at form.Steps = refl
agree_at form.Snapshot = refl
agree_at form.Regrid = refl
agree_at form.Refine = refl
agree_at form.Coarsen = refl
agree_at form.Flow = refl
agree_at form.Turns = refl
agree_at form.Shift = refl
agree_at form.Fill = refl
agree_at form.Die = refl
agree_at form.Order = refl
agree_at form.End = refl
agree_at form.Other = refl

pub missing_is : (f : Form) (next : ℕ) → next ≤ 13 → ltb next (due_place f) ≡ is_missing (came_below next) f
missing_is f next low =
    agree_below_at (λ n. ltb n (due_place f)) (λ n. is_missing (came_below n) f) 14 next (agree_at f) (omega arith)
