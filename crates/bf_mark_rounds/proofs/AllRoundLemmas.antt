-- All rounds lead on one after another, from a vector without marks to one whose marks tell the targets.
use Rattle.std.proofs.Common.{◌≡◌, ℕ, zero, suc, ◌+◌, ◌≤◌, List, [], ◌∷◌, ◌++◌, map, refl, subst, arith}
use Rattle.std.specs.Prelude.{Some, replicate}
use Rattle.std.specs.List.Sorted.{IsStrictlyIncreasing}
use Rattle.bf_id.specs.declared.shape.Shape.{Shape}
use Rattle.bf_id.specs.Id.{BlockId}
use Rattle.bf_case.specs.Balanced.{AreBalancedLeaves}
use Rattle.bf_case.specs.Wishes.{Wishes}
use Rattle.bf_rounds.specs.Delivering.{as_delivery}
use Rattle.bf_rounds.specs.Gathering.{Play}
use Rattle.bf_rounds.specs.Leading.{LeadsBy}
use Rattle.bf_marks.specs.Marks.{MarksValue}
use Rattle.bf_marks.specs.declared.flag.Flag.{Flag}
use Rattle.bf_marks.specs.declared.flag.Flag.TheVariants.{Refined, May, Merges}
use Rattle.bf_mark_rounds.specs.AllRounds.{all_plays, beginning_view, level_plays}
use Rattle.bf_mark_rounds.specs.FirstRound.{Beginning, first_course, first_play, marked_at, unmarked_at, wished_at, wished_course, wishing_at}
use Rattle.bf_mark_rounds.specs.Neighbors.{AreOwned}
use Rattle.bf_mark_rounds.specs.Plays.{flag_play, force_play, force_told, last_force_play, marking_course, may_play, merges_play}
use Rattle.bf_mark_rounds.specs.Sequences.{LeadThrough}
use Rattle.bf_mark_rounds.specs.Shares.{Marked, Marking, StopsAbove, forced_after, found_below, marking_at, next_level, told_after}
use Rattle.bf_mark_rounds.specs.Views.{viewed, viewed_course}
use Rattle.bf_mark_rounds.proofs.FirstLemmas.{first_leads}
use Rattle.bf_mark_rounds.proofs.ForceLemmas.{force_leads}
use Rattle.bf_mark_rounds.proofs.RoundLemmas.{last_force_leads, may_leads, merges_lead}
use Rattle.bf_mark_rounds.proofs.ViewLemmas.{view_leads}

module _ (shape : Shape) (ids : List BlockId) (w : Wishes) (owner : BlockId → ℕ) (members : List ℕ) where
  abbrev pub marked : (told all : Marked) → (rank : ℕ) → Beginning
  marked told all = marked_at shape ids w owner (marking_at shape ids w owner told all)

  abbrev with : (rank : ℕ) → MarksValue → Beginning
  with rank marks = record { wishing = wishing_at shape ids w owner rank; marks = Some marks }

  -- a later round, and those after it
  later : (flag : Flag) (play : Play Marking (List BlockId)) (plays : List (Play Marking (List BlockId))) (told all told_next all_next : Marked) (after : ℕ → Beginning)
      → LeadsBy (as_delivery play) members (marking_course shape ids w owner flag play told all members) (marking_at shape ids w owner told all)
      (marking_at shape ids w owner told_next all_next)
      → LeadThrough (map (viewed beginning_view) plays) members (marked told_next all_next) after
      → LeadThrough (map (viewed beginning_view) (play ∷ plays)) members (marked told all) after
  unfolding LeadThrough
  later flag play plays told all told_next all_next after leads rest = (
    marked told_next all_next,
    viewed_course with (marking_course shape ids w owner flag play told all members),
    view_leads beginning_view shape ids w owner with (record { rank = λ rank marks. refl; links = λ rank marks. refl; marks = λ rank marks. refl; put = λ rank marks now. refl })
        flag play told all members (marking_at shape ids w owner told_next all_next) leads,
    rest,
  )

  -- the first round, and those after it
  first : (finish : Marking → Marking) (plays : List (Play Marking (List BlockId))) (told_next all_next : Marked) (after : ℕ → Beginning)
      → LeadsBy (as_delivery (flag_play Refined force_told finish)) members (wished_course shape ids w owner finish members) (wished_at shape ids w owner)
      (marking_at shape ids w owner told_next all_next)
      → LeadThrough (map (viewed beginning_view) plays) members (marked told_next all_next) after
      → LeadThrough (first_play finish ∷ map (viewed beginning_view) plays) members (unmarked_at shape ids w owner) after
  unfolding LeadThrough
  first finish plays told_next all_next after leads rest = (
    marked told_next all_next,
    first_course shape ids w owner finish members,
    first_leads shape ids w owner finish members (marking_at shape ids w owner told_next all_next) leads,
    rest,
  )

  ends : (before after : ℕ → Beginning) → before ≡ after → LeadThrough {M = List BlockId} [] members before after
  unfolding LeadThrough
  ends before after same = same

  module _ (levels : ℕ) (map_is : AreBalancedLeaves shape levels ids) (few : levels ≤ 4) (rise : IsStrictlyIncreasing members) (owned : AreOwned ids owner members) where
    levels_lead : (level : ℕ)
        → LeadThrough (map (viewed beginning_view) (level_plays level)) members (marked (found_below shape ids w level level) (found_below shape ids w (next_level level) level))
        (marked (found_below shape ids w 0 0) (found_below shape ids w 0 0))
    levels_lead zero = ends (marked (found_below shape ids w 0 0) (found_below shape ids w 0 0)) (marked (found_below shape ids w 0 0) (found_below shape ids w 0 0)) refl
    levels_lead (suc before) =
        later May (may_play (suc before)) (merges_play before ∷ level_plays before) (found_below shape ids w (suc before) (suc before)) (found_below shape ids w before (suc before))
        (found_below shape ids w before (suc before)) (found_below shape ids w before before) (marked (found_below shape ids w 0 0) (found_below shape ids w 0 0))
        (may_leads shape ids levels map_is few w owner members rise owned before)
        (later Merges (merges_play before) (level_plays before) (found_below shape ids w before (suc before)) (found_below shape ids w before before)
        (found_below shape ids w before before) (found_below shape ids w (next_level before) before) (marked (found_below shape ids w 0 0) (found_below shape ids w 0 0))
        (merges_lead shape ids levels map_is few w owner members rise owned before)
        (levels_lead before))

  module _ (before : ℕ) (map_is : AreBalancedLeaves shape (suc before) ids) (few : suc before ≤ 4) (stop : StopsAbove ids w (suc before)) (rise : IsStrictlyIncreasing members)
      (owned : AreOwned ids owner members) where
    -- the rounds where so many force rounds are left before the last one
    abbrev rest_after : (left : ℕ) → List (Play Marking (List BlockId))
    rest_after left = (replicate left force_play ++ last_force_play (suc before) ∷ []) ++ level_plays (suc before)

    forces_lead : (left rounds : ℕ) → rounds + left ≡ before
        → LeadThrough (map (viewed beginning_view) (rest_after left)) members (marked (told_after shape ids w rounds) (forced_after shape ids w rounds))
        (marked (found_below shape ids w 0 0) (found_below shape ids w 0 0))
    forces_lead zero rounds all_played =
        let is : before ≡ rounds = omega (arith, all_played) in
        subst (λ n. LeadThrough (map (viewed beginning_view) (rest_after zero)) members (marked (told_after shape ids w n) (forced_after shape ids w n))
        (marked (found_below shape ids w 0 0) (found_below shape ids w 0 0))) is
        (later Refined (last_force_play (suc before)) (level_plays (suc before)) (told_after shape ids w before) (forced_after shape ids w before)
        (found_below shape ids w (suc before) (suc before)) (found_below shape ids w before (suc before)) (marked (found_below shape ids w 0 0) (found_below shape ids w 0 0))
        (last_force_leads shape ids (suc before) map_is few w owner members rise owned before refl stop)
        (levels_lead (suc before) map_is few rise owned (suc before)))
    forces_lead (suc left) rounds all_played =
        later Refined force_play (rest_after left) (told_after shape ids w rounds) (forced_after shape ids w rounds)
        (told_after shape ids w (suc rounds)) (forced_after shape ids w (suc rounds)) (marked (found_below shape ids w 0 0) (found_below shape ids w 0 0))
        (force_leads shape ids map_is.rising w owner rounds members rise owned)
        (forces_lead left (suc rounds) (omega (arith, all_played)))

  pub all_lead : (levels : ℕ) → AreBalancedLeaves shape levels ids → 1 ≤ levels → levels ≤ 4 → StopsAbove ids w levels → IsStrictlyIncreasing members → AreOwned ids owner members
      → LeadThrough (all_plays levels) members (unmarked_at shape ids w owner) (marked (found_below shape ids w 0 0) (found_below shape ids w 0 0))
  all_lead zero map_is some few stop rise owned = absurd (omega (arith, some))
  all_lead (suc zero) map_is some few stop rise owned =
      first (last_force_play 1).finish (level_plays 1) (found_below shape ids w 1 1) (found_below shape ids w 0 1) (marked (found_below shape ids w 0 0) (found_below shape ids w 0 0))
      (last_force_leads shape ids 1 map_is few w owner members rise owned 0 refl stop)
      (levels_lead 1 map_is few rise owned 1)
  all_lead (suc (suc left)) map_is some few stop rise owned =
      first force_play.finish (rest_after (suc left) map_is few stop rise owned left) (told_after shape ids w 1) (forced_after shape ids w 1)
      (marked (found_below shape ids w 0 0) (found_below shape ids w 0 0))
      (force_leads shape ids map_is.rising w owner 0 members rise owned)
      (forces_lead (suc left) map_is few stop rise owned left 1 (omega arith))
