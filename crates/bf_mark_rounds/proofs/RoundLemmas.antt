-- The last force round and the rounds of the levels lead on, and what they find.
use Rattle.std.proofs.Common.{◌≡◌, ℕ, zero, suc, ◌≤◌, Bool, true, false, cond, ◌&&◌, ◌||◌, List, [], ◌⊎◌, inl, inr, map, filter, Contains, refl, sym, ap, ◌∙◌, arith, All}
use Rattle.std.specs.Prelude.{nat_lt}
use Rattle.std.specs.List.Sorted.{IsStrictlyIncreasing}
use Rattle.std.proofs.lemmas.Bool.{le-ltb}
use Rattle.std.proofs.lemmas.List.Elements.{All-contains, All-weaker}
use Rattle.bf_id.specs.declared.shape.Shape.{Shape}
use Rattle.bf_id.specs.Id.{BlockId, level_of, parent_of}
use Rattle.bf_case.specs.Balanced.{AreBalancedLeaves}
use Rattle.bf_case.specs.Merging.{merges}
use Rattle.bf_case.specs.Refinement.{is_among, refined_ids, refined_within}
use Rattle.bf_case.specs.Regrid.{target_of}
use Rattle.bf_case.specs.Wishes.{Wishes}
use Rattle.bf_case.specs.declared.target.Target.{Target}
use Rattle.bf_case.specs.declared.target.Target.TheVariants.{Keep, Refine, Merge}
use Rattle.bf_case.proofs.TestLemmas.{Contains-filter_cases, filter_none}
use Rattle.bf_marks.proofs.ChosenLemmas.{among_has, among_is}
use Rattle.bf_links.specs.Links.{links_of}
use Rattle.bf_rounds.specs.Delivering.{as_delivery}
use Rattle.bf_rounds.specs.Gathering.{gathered}
use Rattle.bf_rounds.specs.Leading.{LeadsBy}
use Rattle.bf_marks.specs.Flags.{is_flagged}
use Rattle.bf_marks.specs.Marks.{MarksValue, target_by}
use Rattle.bf_marks.specs.Rounds.{forced_marks, may_marks, merging_marks}
use Rattle.bf_marks.specs.declared.flag.Flag.TheVariants.{Refined, May, Merges}
use Rattle.bf_marks.proofs.RefinedLemmas.{StopsAt, chosen_passes, filter_where, refined_settles}
use Rattle.bf_mark_rounds.specs.Neighbors.{AreOwned, is_near, is_neighbors, is_other, is_own}
use Rattle.bf_mark_rounds.specs.Plays.{force_told, hear_all, last_force_play, level_told, marking_course, marking_peers, may_play, merges_play, next_mays, remarked}
use Rattle.bf_mark_rounds.specs.Shares.{Marked, forced_after, found_below, marking_at, may_merge_in, mays_below, merging_below, next_level, share, told_after}
use Rattle.bf_mark_rounds.proofs.ForceLemmas.{forced_next, known_refined, own_known, play_leads}
use Rattle.bf_mark_rounds.proofs.HeardLemmas.{may_heard, merging_heard}
use Rattle.bf_mark_rounds.proofs.LevelLemmas.{asked_next, known_neighbors, known_own, level_heard, settled_next}
use Rattle.bf_mark_rounds.proofs.NeighborLemmas.{peers_are}

module _ (shape : Shape) (ids : List BlockId) (levels : ℕ) (map_is : AreBalancedLeaves shape levels ids) (few : levels ≤ 4) (w : Wishes) (owner : BlockId → ℕ) where
  abbrev R : List BlockId
  R = refined_ids shape ids w

  low : All (λ i. level_of i ≤ 4) ids
  low = All-weaker (λ i. level_of i ≤ levels) (λ i. level_of i ≤ 4) (λ i shallow. omega (arith, few, shallow)) ids map_is.shallow

  -- no leaf is deeper than the finest level
  none_deeper : (flag : BlockId → Bool) → filter (λ i. nat_lt levels (level_of i) && flag i) ids ≡ []
  none_deeper flag =
      filter_where (λ i. nat_lt levels (level_of i) && flag i) (λ i. false) ids
      (λ i has.
      let shallow : level_of i ≤ levels = All-contains (λ i. level_of i ≤ levels) ids i map_is.shallow has in
      ap (λ b. b && flag i) (le-ltb levels (level_of i) shallow))
      ∙ filter_none (λ i. false) ids (λ i. refl)

  module _ (members : List ℕ) (rise : IsStrictlyIncreasing members) (owned : AreOwned ids owner members) where
    -- ---- the last force round

    -- what is forced in as many rounds as there are levels is what the model refines, and so what the others had told
    forced_found : (before : ℕ) → levels ≡ suc before → StopsAt ids w levels → (rank : ℕ)
        → share shape ids w owner (forced_after shape ids w before) (forced_after shape ids w (suc before)) rank
        ≡ share shape ids w owner (found_below shape ids w levels levels) (found_below shape ids w levels levels) rank
    forced_found before is stop rank =
        let S : (told_refined refined may merging : List BlockId) → MarksValue = λ told_refined refined may merging. share shape ids w owner
        (record { refined = told_refined; may = may; merging = merging }) (record { refined = refined; may = may; merging = merging }) rank in
        ap (λ told. S told (refined_within shape ids w (suc before)) [] []) (refined_settles shape ids w levels stop before 4 (omega arith) (omega arith))
        ∙ ap (λ refined. S R refined [] []) (refined_settles shape ids w levels stop (suc before) 4 (omega arith) (omega arith))
        ∙ ap (λ may. S R R may []) (sym (none_deeper (may_merge_in shape ids w R)))
        ∙ ap (λ merging. S R R (mays_below shape ids w R levels) merging) (sym (none_deeper (λ i. merges shape ids w R (parent_of i))))

    pub last_force_leads : (before : ℕ) → levels ≡ suc before → StopsAt ids w levels
        → LeadsBy (as_delivery (last_force_play levels)) members (marking_course shape ids w owner Refined (last_force_play levels) (told_after shape ids w before) (forced_after shape ids w before) members)
        (marking_at shape ids w owner (told_after shape ids w before) (forced_after shape ids w before))
        (marking_at shape ids w owner (found_below shape ids w levels levels) (found_below shape ids w before levels))
    last_force_leads before is stop =
        play_leads shape ids map_is.rising w owner Refined force_told (λ local. remarked (λ m. may_marks levels local.links (forced_marks local.links m)) local)
        (told_after shape ids w before) (forced_after shape ids w before) (marking_at shape ids w owner (found_below shape ids w levels levels) (found_below shape ids w before levels)) members rise
        (λ rank member.
        let links = map (links_of shape ids owner) (filter (is_own owner rank) ids) in
        ap (λ (m : MarksValue). record { rank = rank; links = links; marks = m })
        (ap (may_marks levels links) (forced_next shape ids map_is.rising w owner before members owned rank links refl ∙ forced_found before is stop rank)
        ∙ ap (λ n. may_marks n links (share shape ids w owner (found_below shape ids w n n) (found_below shape ids w n n) rank)) is
        ∙ asked_next shape ids map_is.rising w owner rank before (suc before) links refl
        ∙ ap (λ n. share shape ids w owner (found_below shape ids w n n) (found_below shape ids w before n) rank) (sym is)))

    -- ---- the two rounds of a level

    pub may_leads : (before : ℕ)
        → LeadsBy (as_delivery (may_play (suc before))) members
        (marking_course shape ids w owner May (may_play (suc before)) (found_below shape ids w (suc before) (suc before)) (found_below shape ids w before (suc before)) members)
        (marking_at shape ids w owner (found_below shape ids w (suc before) (suc before)) (found_below shape ids w before (suc before)))
        (marking_at shape ids w owner (found_below shape ids w before (suc before)) (found_below shape ids w before before))
    may_leads before =
        play_leads shape ids map_is.rising w owner May (level_told May (suc before)) (remarked (merging_marks (suc before))) told all
        (marking_at shape ids w owner (found_below shape ids w before (suc before)) (found_below shape ids w before before)) members rise
        (λ rank member.
        ap (λ (m : MarksValue). record { rank = rank; links = map (links_of shape ids owner) (filter (is_own owner rank) ids); marks = merging_marks (suc before) m }) (heard rank)
        ∙ ap (λ (m : MarksValue). record { rank = rank; links = map (links_of shape ids owner) (filter (is_own owner rank) ids); marks = m })
        (settled_next shape ids map_is.rising w owner rank map_is.named low before (suc before)))
      where
        told : Marked
        told = found_below shape ids w (suc before) (suc before)

        all : Marked
        all = found_below shape ids w before (suc before)

        gained : ℕ → List BlockId
        gained rank = gathered (λ peer (msg : List BlockId). msg) (λ from to. level_told May (suc before) (marking_at shape ids w owner told all from) to) rank
            (marking_peers members (marking_at shape ids w owner told all rank))

        heard : (rank : ℕ) → hear_all May (gained rank) (share shape ids w owner told all rank) ≡ share shape ids w owner (found_below shape ids w before (suc before)) all rank
        heard rank =
            let m : MarksValue = share shape ids w owner told all rank in
            may_heard (gained rank) m
            ∙ ap (λ heard. record m { may = record m.may { heard = heard } })
            (level_heard shape ids map_is.rising owner members owned (may_merge_in shape ids w R) before rank
            (marking_peers members (marking_at shape ids w owner told all rank)) (peers_are shape ids owner members rank m))

    merges_heard : (before rank : ℕ) → (let told = found_below shape ids w before (suc before) in let all = found_below shape ids w before before in
        hear_all Merges (gathered (λ peer (msg : List BlockId). msg) (λ from to. level_told Merges (suc before) (marking_at shape ids w owner told all from) to) rank
        (marking_peers members (marking_at shape ids w owner told all rank))) (share shape ids w owner told all rank))
        ≡ share shape ids w owner (found_below shape ids w before before) (found_below shape ids w before before) rank
    merges_heard before rank =
        let told : Marked = found_below shape ids w before (suc before) in
        let all : Marked = found_below shape ids w before before in
        let m : MarksValue = share shape ids w owner told all rank in
        let peers : List ℕ = marking_peers members (marking_at shape ids w owner told all rank) in
        merging_heard (gathered (λ peer (msg : List BlockId). msg) (λ from to. level_told Merges (suc before) (marking_at shape ids w owner told all from) to) rank peers) m
        ∙ ap (λ heard. record m { merging = record m.merging { heard = heard } })
        (level_heard shape ids map_is.rising owner members owned (λ i. merges shape ids w R (parent_of i)) before rank peers (peers_are shape ids owner members rank m))

    pub merges_lead : (before : ℕ)
        → LeadsBy (as_delivery (merges_play before)) members
        (marking_course shape ids w owner Merges (merges_play before) (found_below shape ids w before (suc before)) (found_below shape ids w before before) members)
        (marking_at shape ids w owner (found_below shape ids w before (suc before)) (found_below shape ids w before before))
        (marking_at shape ids w owner (found_below shape ids w before before) (found_below shape ids w (next_level before) before))
    merges_lead before =
        play_leads shape ids map_is.rising w owner Merges (level_told Merges (suc before)) (next_mays before) (found_below shape ids w before (suc before)) (found_below shape ids w before before)
        (marking_at shape ids w owner (found_below shape ids w before before) (found_below shape ids w (next_level before) before)) members rise
        (λ rank member.
        ap (λ (m : MarksValue). next_mays before (record { rank = rank; links = map (links_of shape ids owner) (filter (is_own owner rank) ids); marks = m })) (merges_heard before rank)
        ∙ asked before rank)
      where
        asked : (before rank : ℕ) → next_mays before (marking_at shape ids w owner (found_below shape ids w before before) (found_below shape ids w before before) rank)
            ≡ marking_at shape ids w owner (found_below shape ids w before before) (found_below shape ids w (next_level before) before) rank
        asked zero rank = refl
        asked (suc level) rank =
            ap (λ (m : MarksValue). record { rank = rank; links = map (links_of shape ids owner) (filter (is_own owner rank) ids); marks = m })
            (asked_next shape ids map_is.rising w owner rank level (suc level) (map (links_of shape ids owner) (filter (is_own owner rank) ids)) refl)

  -- ---- the targets

  -- of a leaf that is its own, or that touches one of its own, a rank then knows what becomes of it
  pub targets_are : (rank : ℕ) (i : BlockId) → Contains ids i → (is_own owner rank i ≡ true) ⊎ (is_near shape ids owner rank i ≡ true)
      → target_by (share shape ids w owner (found_below shape ids w 0 0) (found_below shape ids w 0 0) rank) i ≡ target_of shape ids w i
  targets_are rank i has known =
      let T : Bool → Bool → Target = λ refined merging. cond refined Refine (cond merging Merge Keep) in
      let m : MarksValue = share shape ids w owner (found_below shape ids w 0 0) (found_below shape ids w 0 0) rank in
      ap (λ b. T b (is_flagged m.merging i)) (refined known)
      ∙ ap (T (is_among R i)) (merging known ∙ chosen_passes (λ i. nat_lt 0 (level_of i) && merges shape ids w R (parent_of i)) ids i has)
    where
      refined : (is_own owner rank i ≡ true) ⊎ (is_near shape ids owner rank i ≡ true)
          → is_flagged (record { own = filter (is_own owner rank) R; heard = filter (is_other shape ids owner rank) R }) i ≡ is_among R i
      refined (inl own) =
          ap (λ b. b || is_among (filter (is_other shape ids owner rank) R) i) (own_known shape ids map_is.rising w owner R rank i own)
          ∙ none (is_among R i) (is_among (filter (is_other shape ids owner rank) R) i) (λ among. (heard_refined among))
        where
          heard_refined : is_among (filter (is_other shape ids owner rank) R) i ≡ true → is_among R i ≡ true
          heard_refined among = among_is R i (Contains-filter_cases (is_other shape ids owner rank) R i (among_has (filter (is_other shape ids owner rank) R) i among)).0

          none : (a b : Bool) → (b ≡ true → a ≡ true) → (a || b) ≡ a
          none true b within = refl
          none false true within = let wrong : false ≡ true = within refl in absurd (cc)
          none false false within = refl
      refined (inr near) = known_refined shape ids map_is.rising w owner R rank i near

      merging : (is_own owner rank i ≡ true) ⊎ (is_near shape ids owner rank i ≡ true)
          → is_flagged (record { own = filter (is_own owner rank) (merging_below shape ids w R 0); heard = filter (is_neighbors shape ids owner rank) (merging_below shape ids w R 0) }) i
          ≡ is_among (merging_below shape ids w R 0) i
      merging (inl own) = known_own shape ids map_is.rising owner (merging_below shape ids w R 0) rank i own
      merging (inr near) = known_neighbors shape ids map_is.rising owner (merging_below shape ids w R 0) rank i has near
