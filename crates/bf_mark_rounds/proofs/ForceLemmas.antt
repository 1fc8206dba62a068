-- A force round leads from the flags before it to those after it.
use Rattle.std.proofs.Common.{◌≡◌, ℕ, zero, suc, ◌+◌, Bool, true, false, not, ◌&&◌, ◌||◌, ◌==◌, List, [], ◌∷◌, map, filter, Contains, refl, sym, ap, ◌∙◌, IsTrue, arith}
use Rattle.std.specs.Prelude.{AllPairs}
use Rattle.std.specs.List.{list_any}
use Rattle.std.specs.List.Sorted.{IsStrictlyIncreasing}
use Rattle.std.proofs.lemmas.Bool.{and_from}
use Rattle.std.proofs.lemmas.List.Kept.{AllPairs-filter}
use Rattle.std.proofs.lemmas.List.Sums.{fold-append}
use Rattle.bf_lemmas.proofs.Lists.{any_mapped, any_filtered, filter_twice}
use Rattle.bf_id.specs.declared.shape.Shape.{Shape}
use Rattle.bf_id.specs.Id.{BlockId, level_of, touches}
use Rattle.bf_id.specs.Walk.{IsBefore}
use Rattle.bf_case.specs.Refinement.{is_among, refined_within}
use Rattle.bf_id.proofs.Tilings.{Contains-head, Contains-tail}
use Rattle.bf_case.proofs.TestLemmas.{Contains-filter_cases}
use Rattle.bf_case.specs.Wishes.{Wishes}
use Rattle.bf_links.specs.Links.{is_owner, link_to, links_of}
use Rattle.bf_links.specs.declared.link.Link.{Link}
use Rattle.bf_buddy.specs.Members.{is_member}
use Rattle.bf_rounds.specs.Delivering.{as_delivery}
use Rattle.bf_rounds.specs.Gathering.{gathered}
use Rattle.bf_rounds.specs.Leading.{LeadsBy}
use Rattle.bf_rounds.proofs.LeadLemmas.{gathers_by}
use Rattle.bf_marks.specs.Flags.{Flagged, is_flagged}
use Rattle.bf_marks.specs.Marks.{MarksValue, marks_heard}
use Rattle.bf_marks.specs.Rounds.{forced_marks, is_forced}
use Rattle.bf_marks.specs.declared.flag.Flag.{Flag}
use Rattle.bf_marks.specs.declared.flag.Flag.TheVariants.{Refined}
use Rattle.bf_marks.proofs.ChosenLemmas.{among_has, among_is}
use Rattle.bf_marks.proofs.RefinedLemmas.{chosen_of, filter_where, forced_is, refined_leaf}
use Rattle.bf_mark_rounds.specs.Neighbors.{AreOwned, is_own, is_near, is_other, is_neighbor, is_neighbors}
use Rattle.bf_mark_rounds.specs.Plays.{flag_play, force_play, force_told, hear_all, heard_marking, marking_course, marking_peers}
use Rattle.bf_mark_rounds.specs.Shares.{Marked, Marking, forced_after, marking_at, share, told_after}
use Rattle.bf_mark_rounds.proofs.HeardLemmas.{among_filtered, put_all, put_all_is, refined_heard}
use Rattle.bf_mark_rounds.proofs.NeighborLemmas.{heard_is, linked_is, near_by, near_neighbors, neighbors_mutual, peers_are}

-- a test by two orders of filters
pub filter_swap : (p q : BlockId → Bool) (is : List BlockId) → filter p (filter q is) ≡ filter q (filter p is)
filter_swap p q is = filter_twice p q is ∙ ap (λ (f : BlockId → Bool). filter f is) (λ k i. swap (q i) (p i) k) ∙ sym (filter_twice q p is)
  where
    swap : (a b : Bool) → (a && b) ≡ (b && a)
    swap true true = refl
    swap true false = refl
    swap false true = refl
    swap false false = refl

-- tests that agree on a list pass alike
pub any_where : {X : Type 0} (p q : X → Bool) (xs : List X) → ((x : X) → Contains xs x → p x ≡ q x) → list_any p xs ≡ list_any q xs
any_where p q [] same = refl
any_where p q (x ∷ xs) same =
    ap (λ b. b || list_any p xs) (same x (Contains-head x xs)) ∙ ap (λ c. q x || c) (any_where p q xs (λ y has. same y (Contains-tail x xs y has)))

-- so links do where they agree on the leaves that touch one
pub linked_alike : (shape : Shape) (ids : List BlockId) (owner : BlockId → ℕ) (p q : BlockId → Bool) (i : BlockId)
    → ((j : BlockId) → Contains ids j → touches shape i j ≡ true → p j ≡ q j)
    → list_any (λ (link : Link). p link.id) (links_of shape ids owner i) ≡ list_any (λ (link : Link). q link.id) (links_of shape ids owner i)
linked_alike shape ids owner p q i same =
    any_mapped (λ (link : Link). p link.id) (link_to owner) (filter (touches shape i) ids)
    ∙ by ids same
    ∙ sym (any_mapped (λ (link : Link). q link.id) (link_to owner) (filter (touches shape i) ids))
  where
    by : (is : List BlockId) → ((j : BlockId) → Contains is j → touches shape i j ≡ true → p j ≡ q j) → list_any p (filter (touches shape i) is) ≡ list_any q (filter (touches shape i) is)
    by is alike = any_filtered p (touches shape i) is ∙ each is alike ∙ sym (any_filtered q (touches shape i) is)
      where
        at : (b : Bool) (j : BlockId) → (b ≡ true → p j ≡ q j) → (b && p j) ≡ (b && q j)
        at true j there = there refl
        at false j there = refl

        each : (is : List BlockId) → ((j : BlockId) → Contains is j → touches shape i j ≡ true → p j ≡ q j) → list_any (λ j. touches shape i j && p j) is ≡ list_any (λ j. touches shape i j && q j) is
        each is alike = any_where (λ j. touches shape i j && p j) (λ j. touches shape i j && q j) is (λ j has. at (touches shape i j) j (alike j has))

module _ (shape : Shape) (ids : List BlockId) (rises : AllPairs IsBefore ids) (w : Wishes) (owner : BlockId → ℕ) where
  -- any round in which a flag is told leads on, where its finish does
  pub play_leads : (flag : Flag) (tell : Marking → ℕ → List BlockId) (finish : Marking → Marking) (told all : Marked) (after : ℕ → Marking) (members : List ℕ) → IsStrictlyIncreasing members
      → ((rank : ℕ) → IsTrue (is_member members rank)
      → finish (heard_marking shape ids w owner flag told all rank (gathered (λ peer (msg : List BlockId). msg) (λ from to. tell (marking_at shape ids w owner told all from) to) rank
      (marking_peers members (marking_at shape ids w owner told all rank)))) ≡ after rank)
      → LeadsBy (as_delivery (flag_play flag tell finish)) members (marking_course shape ids w owner flag (flag_play flag tell finish) told all members) (marking_at shape ids w owner told all) after
  play_leads flag tell finish told all after members rise ends =
      gathers_by (flag_play flag tell finish) (λ peer (msg : List BlockId). msg) (heard_marking shape ids w owner flag told all) members (marking_at shape ids w owner told all) after
      (is_neighbor shape ids owner) rise
      (neighbors_mutual shape ids owner members (λ rank. marking_peers members (marking_at shape ids w owner told all rank))
      (λ rank. peers_are shape ids owner members rank (share shape ids w owner told all rank)))
      (record {
        none = λ rank member. refl;
        hear = λ rank peer heard.
            ap (λ (m : MarksValue). record (marking_at shape ids w owner told all rank) { marks = m })
            (sym (fold-append (λ m i. marks_heard flag i m) (share shape ids w owner told all rank) heard (tell (marking_at shape ids w owner told all peer) rank)));
        finish = ends;
      })

  -- what a rank knows of a flag tells it of each leaf that touches one of its own
  pub known_refined : (flags : List BlockId) (rank : ℕ) (j : BlockId) → is_near shape ids owner rank j ≡ true
      → is_flagged (record { own = filter (is_own owner rank) flags; heard = filter (is_other shape ids owner rank) flags }) j ≡ is_among flags j
  known_refined flags rank j near =
      ap (λ b. b || is_among (filter (is_other shape ids owner rank) flags) j) (among_filtered (is_own owner rank) flags j)
      ∙ ap (λ b. (is_among flags j && is_own owner rank j) || b) (among_filtered (is_other shape ids owner rank) flags j)
      ∙ ap (λ b. (is_among flags j && is_own owner rank j) || (is_among flags j && (not (is_own owner rank j) && b))) near
      ∙ tests (is_among flags j) (is_own owner rank j)
    where
      tests : (f o : Bool) → ((f && o) || (f && (not o && true))) ≡ f
      tests true true = refl
      tests true false = refl
      tests false o = refl

  pub own_known : (flags : List BlockId) (rank : ℕ) (i : BlockId) → is_own owner rank i ≡ true → is_among (filter (is_own owner rank) flags) i ≡ is_among flags i
  own_known flags rank i own = among_filtered (is_own owner rank) flags i ∙ ap (λ b. is_among flags i && b) own ∙ and_one (is_among flags i)
    where
      and_one : (a : Bool) → (a && true) ≡ a
      and_one true = refl
      and_one false = refl

  module _ (rounds : ℕ) where
    abbrev pub R : List BlockId
    R = refined_within shape ids w rounds

    leaf : (i : BlockId) → Contains R i → Contains ids i
    leaf i has = refined_leaf shape ids w rounds i has

    abbrev pub told : (from to : ℕ) → List BlockId
    told from to = force_told (marking_at shape ids w owner (told_after shape ids w rounds) (forced_after shape ids w rounds) from) to

    -- a rank tells the refined ones of its leaves that are near whom it tells them
    pub telling : (from to : ℕ) (i : BlockId) → is_among (told from to) i ≡ (is_own owner from i && (is_near shape ids owner to i && is_among R i))
    telling from to i =
        ap (λ is. is_among is i) (chosen_of (λ i links. is_among (filter (is_own owner from) R) i && is_owner links to) (links_of shape ids owner) (filter (is_own owner from) ids))
        ∙ among_filtered (λ i. is_among (filter (is_own owner from) R) i && is_owner (links_of shape ids owner i) to) (filter (is_own owner from) ids) i
        ∙ ap (λ b. b && (is_among (filter (is_own owner from) R) i && is_owner (links_of shape ids owner i) to)) (among_filtered (is_own owner from) ids i)
        ∙ ap (λ b. (is_among ids i && is_own owner from i) && (b && is_owner (links_of shape ids owner i) to)) (among_filtered (is_own owner from) R i)
        ∙ ap (λ b. (is_among ids i && is_own owner from i) && ((is_among R i && is_own owner from i) && b)) (linked_is shape ids owner to i)
        ∙ tests (is_among ids i) (is_own owner from i) (is_among R i) (is_near shape ids owner to i) (λ among. among_is ids i (leaf i (among_has R i among)))
      where
        tests : (a o r n : Bool) → (r ≡ true → a ≡ true) → ((a && o) && ((r && o) && n)) ≡ (o && (n && r))
        tests true true true true in' = refl
        tests true true true false in' = refl
        tests true true false true in' = refl
        tests true true false false in' = refl
        tests true false r n in' = refl
        tests false true true n in' = let wrong : false ≡ true = in' refl in absurd (cc)
        tests false true false true in' = refl
        tests false true false false in' = refl
        tests false false r n in' = refl

    module _ (members : List ℕ) (owned : AreOwned ids owner members) (rank : ℕ) where
      abbrev pub peers : List ℕ
      peers = marking_peers members (marking_at shape ids w owner (told_after shape ids w rounds) (forced_after shape ids w rounds) rank)

      abbrev pub gained : List BlockId
      gained = gathered (λ peer (msg : List BlockId). msg) told rank peers

      gained_is : (i : BlockId) → is_among gained i ≡ (is_neighbors shape ids owner rank i && (is_near shape ids owner rank i && is_among R i))
      gained_is i =
          heard_is shape ids owner members owned R leaf (is_near shape ids owner) told telling rank peers
          (peers_are shape ids owner members rank (share shape ids w owner (told_after shape ids w rounds) (forced_after shape ids w rounds) rank)) i

      -- with what was heard before, a rank has heard of all refined leaves of others that touch one of its own
      known_next : put_all (filter (is_other shape ids owner rank) (told_after shape ids w rounds).refined) gained ≡ filter (is_other shape ids owner rank) R
      unfolding refined_within
      known_next =
          put_all_is gained (filter other before) (filter other R) (AllPairs-filter IsBefore other before before_rise) (AllPairs-filter IsBefore other R (refined_rise rounds))
          (λ i.
          ap (λ b. b || is_among (filter other before) i) (gained_is i)
          ∙ ap (λ b. (is_neighbors shape ids owner rank i && (is_near shape ids owner rank i && is_among R i)) || b) (among_filtered other before i)
          ∙ tests (is_neighbors shape ids owner rank i) (is_near shape ids owner rank i) (is_among R i) (is_own owner rank i) (is_among before i)
          (λ among near. near_neighbors shape ids owner rank i (leaf i (among_has R i among)) near) (was_refined rounds i)
          ∙ sym (among_filtered other R i))
        where
          other : BlockId → Bool
          other = is_other shape ids owner rank

          before : List BlockId
          before = (told_after shape ids w rounds).refined

          refined_rise : (n : ℕ) → AllPairs IsBefore (refined_within shape ids w n)
          refined_rise zero = AllPairs-filter IsBefore w.finer ids rises
          refined_rise (suc n) =
              AllPairs-filter IsBefore (λ i. is_among (refined_within shape ids w n) i || list_any (λ j. touches shape j i && level_of j == level_of i + 1) (refined_within shape ids w n)) ids rises

          before_rise : AllPairs IsBefore before
          before_rise = by rounds
            where
              by : (n : ℕ) → AllPairs IsBefore (told_after shape ids w n).refined
              by zero = AllPairs-filter IsBefore (λ i. false) [] (λ i j d below within. absurd (omega arith))
              by (suc n) = refined_rise n

          was_refined : (n : ℕ) (i : BlockId) → is_among (told_after shape ids w n).refined i ≡ true → is_among (refined_within shape ids w n) i ≡ true
          was_refined zero i among = absurd (cc)
          was_refined (suc n) i among =
              among_filtered (λ i. is_among (refined_within shape ids w n) i || list_any (λ j. touches shape j i && level_of j == level_of i + 1) (refined_within shape ids w n)) ids i
              ∙ and_from (is_among ids i) (is_among (refined_within shape ids w n) i || list_any (λ j. touches shape j i && level_of j == level_of i + 1) (refined_within shape ids w n))
              (among_is ids i (refined_leaf shape ids w n i (among_has (refined_within shape ids w n) i among)))
              (ap (λ b. b || list_any (λ j. touches shape j i && level_of j == level_of i + 1) (refined_within shape ids w n)) among)

          tests : (s n r o b : Bool) → (r ≡ true → n ≡ true → s ≡ not o) → (b ≡ true → r ≡ true) → ((s && (n && r)) || (b && (not o && n))) ≡ (r && (not o && n))
          tests s true true o b is was = ap (λ s. (s && true) || (b && (not o && true))) (is refl refl) ∙ at o b
            where
              at : (o b : Bool) → ((not o && true) || (b && (not o && true))) ≡ (not o && true)
              at true true = refl
              at true false = refl
              at false b = refl
          tests s true false o true is was = let wrong : false ≡ true = was refl in absurd (cc)
          tests true true false o false is was = refl
          tests false true false o false is was = refl
          tests true false r o b is was = at o b r
            where
              at : (o b r : Bool) → (b && (not o && false)) ≡ (r && (not o && false))
              at true true true = refl
              at true true false = refl
              at true false true = refl
              at true false false = refl
              at false true true = refl
              at false true false = refl
              at false false true = refl
              at false false false = refl
          tests false false r o b is was = at o b r
            where
              at : (o b r : Bool) → (b && (not o && false)) ≡ (r && (not o && false))
              at true true true = refl
              at true true false = refl
              at true false true = refl
              at true false false = refl
              at false true true = refl
              at false true false = refl
              at false false true = refl
              at false false false = refl

      abbrev pub known : Flagged
      known = record { own = filter (is_own owner rank) R; heard = filter (is_other shape ids owner rank) R }

      -- an own leaf is forced by what the rank knows where it is forced
      own_forced : (i : BlockId) → Contains ids i → is_own owner rank i ≡ true → is_forced known i (links_of shape ids owner i) ≡ list_any (λ j. touches shape j i && level_of j == level_of i + 1) R
      own_forced i has own =
          linked_alike shape ids owner (λ j. level_of j == level_of i + 1 && is_flagged known j) (λ j. level_of j == level_of i + 1 && is_flagged (record { own = R; heard = [] }) j) i
          (λ j in' touch. ap (λ b. level_of j == level_of i + 1 && b) (known_refined R rank j (near_by shape ids owner rank i j has own touch) ∙ all_known (is_among R j)))
          ∙ forced_is shape ids owner R leaf i
        where
          all_known : (b : Bool) → b ≡ (b || false)
          all_known true = refl
          all_known false = refl

      pub own_next : filter (λ i. is_among (filter (is_own owner rank) R) i || is_forced known i (links_of shape ids owner i)) (filter (is_own owner rank) ids)
          ≡ filter (is_own owner rank) (refined_within shape ids w (suc rounds))
      unfolding refined_within
      own_next =
          filter_where (λ i. is_among (filter (is_own owner rank) R) i || is_forced known i (links_of shape ids owner i))
          (λ i. is_among R i || list_any (λ j. touches shape j i && level_of j == level_of i + 1) R) (filter (is_own owner rank) ids)
          (λ i has.
          let kept = Contains-filter_cases (is_own owner rank) ids i has in
          ap (λ b. b || is_forced known i (links_of shape ids owner i)) (own_known R rank i kept.1)
          ∙ ap (λ b. is_among R i || b) (own_forced i kept.0 kept.1))
          ∙ filter_swap (λ i. is_among R i || list_any (λ j. touches shape j i && level_of j == level_of i + 1) R) (is_own owner rank) ids

      -- what a rank then finds
      pub forced_next : (links : List (List Link)) → links ≡ map (links_of shape ids owner) (filter (is_own owner rank) ids)
          → forced_marks links (hear_all Refined gained (share shape ids w owner (told_after shape ids w rounds) (forced_after shape ids w rounds) rank))
          ≡ share shape ids w owner (forced_after shape ids w rounds) (forced_after shape ids w (suc rounds)) rank
      forced_next links are =
          ap (λ m. forced_marks links m) (refined_heard gained before ∙ ap (λ heard. record before { refined = record before.refined { heard = heard } }) known_next)
          ∙ ap (λ links. forced_marks links between) are
          ∙ ap (λ own. record between { refined = record between.refined { own = own } })
          (chosen_of (λ i links. is_among (filter (is_own owner rank) R) i || is_forced known i links) (links_of shape ids owner) (filter (is_own owner rank) ids) ∙ own_next)
        where
          before : MarksValue
          before = share shape ids w owner (told_after shape ids w rounds) (forced_after shape ids w rounds) rank

          between : MarksValue
          between = share shape ids w owner (forced_after shape ids w rounds) (forced_after shape ids w rounds) rank

    pub force_leads : (members : List ℕ) → IsStrictlyIncreasing members → AreOwned ids owner members
        → LeadsBy (as_delivery force_play) members (marking_course shape ids w owner Refined force_play (told_after shape ids w rounds) (forced_after shape ids w rounds) members)
        (marking_at shape ids w owner (told_after shape ids w rounds) (forced_after shape ids w rounds))
        (marking_at shape ids w owner (forced_after shape ids w rounds) (forced_after shape ids w (suc rounds)))
    force_leads members rise owned =
        play_leads Refined force_told (λ local. record local { marks = forced_marks local.links local.marks }) (told_after shape ids w rounds) (forced_after shape ids w rounds)
        (marking_at shape ids w owner (forced_after shape ids w rounds) (forced_after shape ids w (suc rounds))) members rise
        (λ rank member.
        let links = map (links_of shape ids owner) (filter (is_own owner rank) ids) in
        ap (λ (m : MarksValue). record { rank = rank; links = links; marks = m }) (forced_next members owned rank links refl))
