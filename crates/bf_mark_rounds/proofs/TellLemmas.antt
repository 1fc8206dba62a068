-- What ranks tell each other, and when all that is refined is known.
use Rattle.std.proofs.Common.{◌≡◌, ℕ, suc, ◌≤◌, Bool, ◌&&◌, ◌==◌, List, filter, Contains, IsTrue, ◌↔◌, sym, ap, ◌∙◌, arith}
use Rattle.std.specs.Prelude.{AllPairs, nat_lt}
use Rattle.std.proofs.lemmas.Bool.{and_from, and_parts, eq-eqb, eqb-true, lt-ltb}
use Rattle.bf_id.specs.declared.shape.Shape.{Shape}
use Rattle.bf_id.specs.Id.{BlockId, level_of}
use Rattle.bf_id.specs.Walk.{IsBefore}
use Rattle.bf_case.specs.Refinement.{is_among, refined_ids, refined_within}
use Rattle.bf_case.specs.Wishes.{Wishes}
use Rattle.bf_case.proofs.TestLemmas.{Contains-filter, Contains-filter_cases}
use Rattle.bf_marks.proofs.ChosenLemmas.{among_has, among_is}
use Rattle.bf_marks.proofs.RefinedLemmas.{refined_settles}
use Rattle.bf_mark_rounds.specs.Neighbors.{is_near, is_other, is_own}
use Rattle.bf_mark_rounds.specs.Plays.{force_told}
use Rattle.bf_mark_rounds.specs.Shares.{forced_after, marking_at, told_after, StopsAbove}
use Rattle.bf_mark_rounds.proofs.ForceLemmas.{telling}
use Rattle.bf_mark_rounds.proofs.LevelLemmas.{deeper}

module _ (shape : Shape) (ids : List BlockId) (w : Wishes) (owner : BlockId → ℕ) where
  pub forced_told : AllPairs IsBefore ids → (rounds from to : ℕ) (i : BlockId)
      → (Contains (force_told (marking_at shape ids w owner (told_after shape ids w rounds) (forced_after shape ids w rounds) from) to) i
      ↔ (IsTrue (is_own owner from i) × IsTrue (is_near shape ids owner to i) × Contains (refined_within shape ids w rounds) i))
  forced_told rises rounds from to i = (
    λ has.
        let R = refined_within shape ids w rounds in
        let told = force_told (marking_at shape ids w owner (told_after shape ids w rounds) (forced_after shape ids w rounds) from) to in
        let one = and_parts (is_own owner from i) (is_near shape ids owner to i && is_among R i) (sym (telling shape ids rises w owner rounds from to i) ∙ among_is told i has) in
        let two = and_parts (is_near shape ids owner to i) (is_among R i) one.1 in
        (one.0, two.0, among_has R i two.1),
    λ (own, near, has).
        let R = refined_within shape ids w rounds in
        let told = force_told (marking_at shape ids w owner (told_after shape ids w rounds) (forced_after shape ids w rounds) from) to in
        among_has told i
        (telling shape ids rises w owner rounds from to i
        ∙ and_from (is_own owner from i) (is_near shape ids owner to i && is_among R i) own (and_from (is_near shape ids owner to i) (is_among R i) near (among_is R i has))),
  )

  -- of a level, all own leaves that have the flag
  pub flagged_told : (flag : BlockId → Bool) (before from : ℕ) (i : BlockId)
      → (Contains (filter (λ i. level_of i == suc before) (filter (is_own owner from) (deeper ids flag before))) i
      ↔ (IsTrue (is_own owner from i) × (level_of i ≡ suc before) × Contains ids i × IsTrue (flag i)))
  flagged_told flag before from i = (
    λ has.
        let at = Contains-filter_cases (λ i. level_of i == suc before) (filter (is_own owner from) (deeper ids flag before)) i has in
        let its = Contains-filter_cases (is_own owner from) (deeper ids flag before) i at.0 in
        let kept = Contains-filter_cases (λ i. nat_lt before (level_of i) && flag i) ids i its.0 in
        (its.1, eqb-true (level_of i) (suc before) at.1, kept.0, (and_parts (nat_lt before (level_of i)) (flag i) kept.1).1),
    λ (own, level, has, flagged).
        Contains-filter (λ i. level_of i == suc before) (filter (is_own owner from) (deeper ids flag before)) i
        (Contains-filter (is_own owner from) (deeper ids flag before) i
        (Contains-filter (λ i. nat_lt before (level_of i) && flag i) ids i has
        (and_from (nat_lt before (level_of i)) (flag i) (lt-ltb before (level_of i) (omega (arith, level))) flagged))
        own)
        (eq-eqb (level_of i) (suc before) level),
  )

  -- once there were as many rounds as levels, all that is refined is known
  pub own_settled : (levels rank : ℕ) → levels ≤ 4 → StopsAbove ids w levels → filter (is_own owner rank) (refined_within shape ids w levels) ≡ filter (is_own owner rank) (refined_ids shape ids w)
  own_settled levels rank few stop = ap (filter (is_own owner rank)) (refined_settles shape ids w levels stop levels 4 (omega arith) (omega (arith, few)))

  pub heard_settled : (before rank : ℕ) → suc before ≤ 4 → StopsAbove ids w (suc before)
      → filter (is_other shape ids owner rank) (refined_within shape ids w before) ≡ filter (is_other shape ids owner rank) (refined_ids shape ids w)
  heard_settled before rank few stop = ap (filter (is_other shape ids owner rank)) (refined_settles shape ids w (suc before) stop before 4 (omega arith) (omega (arith, few)))
