-- What the rounds of a level find out.
use Rattle.std.proofs.Common.{◌≡◌, ℕ, zero, suc, ◌+◌, ◌*◌, ◌/◌, ◌%◌, ◌<◌, ◌≤◌, Bool, true, false, cond, not, ◌&&◌, ◌||◌, ◌==◌, List, [], ◌∷◌, ◌⊎◌, inl, inr, map, filter, Contains, refl, sym, ap, ◌∙◌, subst, arith, All}
use Rattle.std.specs.Prelude.{AllPairs, nat_lt}
use Rattle.std.specs.List.{list_any, list_all}
use Rattle.std.proofs.lemmas.Bool.{both_ways, cases_Bool, eqb-true, lt-ltb}
use Rattle.std.proofs.lemmas.Bool.Decides.{nat_tests}
use Rattle.std.proofs.lemmas.List.Elements.{All-contains}
use Rattle.std.proofs.lemmas.List.Kept.{AllPairs-filter}
use Rattle.bf_id.specs.declared.shape.Shape.{Shape}
use Rattle.bf_id.specs.Axis.{Axis, MeetsOn}
use Rattle.bf_id.specs.Cube.{Cube, halved}
use Rattle.bf_id.specs.Shape.{axis_x, axis_y, axis_z}
use Rattle.bf_id.specs.Meeting.{Meet}
use Rattle.bf_id.specs.Id.{BlockId, IsId, box_of, child_of, children_of, id_eq, level_of, octant_of, parent_of, touches}
use Rattle.bf_id.specs.Walk.{IsBefore}
use Rattle.bf_id.proofs.Boxes.{box-child, id_eq_is_equal}
use Rattle.bf_id.proofs.Tilings.{Contains-child_cases}
use Rattle.bf_case.specs.Merging.{merges}
use Rattle.bf_case.specs.Refinement.{Chain, is_among, refined_ids}
use Rattle.bf_case.specs.Wishes.{Wishes}
use Rattle.bf_case.proofs.ChainLemmas.{within_from_chain}
use Rattle.bf_case.proofs.MergingRule.{all_alike}
use Rattle.bf_case.proofs.OctetLemmas.{child_of_parent, level-parent, octant_small}
use Rattle.bf_case.proofs.TestLemmas.{Contains-filter, Contains-filter_cases, touches_decides}
use Rattle.bf_links.specs.Links.{link_to, links_of}
use Rattle.bf_links.specs.declared.link.Link.{Link}
use Rattle.bf_rounds.specs.Gathering.{gathered}
use Rattle.bf_marks.specs.Flags.{is_flagged}
use Rattle.bf_marks.specs.Marks.{MarksValue}
use Rattle.bf_marks.specs.Rounds.{finer_merge, is_calm, may_marks, may_merge, merging_marks, octet_may}
use Rattle.bf_marks.specs.Wishes.{is_coarsen, wish_of}
use Rattle.bf_marks.proofs.ChosenLemmas.{among_has, among_is}
use Rattle.bf_marks.proofs.RefinedLemmas.{chosen_of, chosen_passes, filter_where, links_any}
use Rattle.bf_marks.proofs.TargetLemmas.{wish_is_coarsen}
use Rattle.bf_mark_rounds.specs.Neighbors.{AreOwned, is_near, is_neighbor, is_neighbors, is_own}
use Rattle.bf_mark_rounds.specs.Shares.{found_below, may_merge_in, mays_below, merging_below, share}
use Rattle.bf_mark_rounds.proofs.ForceLemmas.{filter_swap, known_refined, linked_alike, own_known}
use Rattle.bf_mark_rounds.proofs.HeardLemmas.{among_filtered, put_all, put_all_is}
use Rattle.bf_mark_rounds.proofs.OctetLemmas.{octet_is}
use Rattle.bf_mark_rounds.proofs.NeighborLemmas.{heard_is, near_by, near_neighbors}

-- ---- siblings touch

small_times : (d h : ℕ) → d ≤ 1 → d * h ≤ h
small_times zero h small = omega arith
small_times (suc zero) h small = omega arith
small_times (suc (suc d)) h small = absurd (omega arith)

halves_meet : (axis : Axis) (x a b h : ℕ) → a ≤ 1 → b ≤ 1 → MeetsOn axis (x + a * h) h (x + b * h) h
halves_meet axis x a b h small_a small_b = (omega (arith, small_times a h small_a), omega (arith, small_times b h small_b))

siblings_meet : (shape : Shape) (p : BlockId) (a b : ℕ) → a < 8 → b < 8 → Meet shape (box_of shape (child_of p a)) (box_of shape (child_of p b))
siblings_meet shape p a b small_a small_b =
    rw (box-child shape p a, box-child shape p b) (meet (box_of shape p))
  where
    meet : (c : Cube) → Meet shape (halved c a) (halved c b)
    meet c = record {
      along_x = halves_meet (axis_x shape) c.x (a % 2) (b % 2) (c.edge / 2) (omega arith) (omega arith);
      along_y = halves_meet (axis_y shape) c.y (a / 2 % 2) (b / 2 % 2) (c.edge / 2) (omega arith) (omega arith);
      along_z = halves_meet (axis_z shape) c.z (a / 4) (b / 4) (c.edge / 2) (omega arith) (omega arith);
    }

-- a sibling is the leaf itself or touches it
pub sibling_touches : (shape : Shape) (i s : BlockId) → IsId i → 0 < level_of i → Contains (children_of (parent_of i)) s → (s ≡ i) ⊎ (touches shape i s ≡ true)
sibling_touches shape i s is deep sibling = by (cases_Bool (id_eq i s))
  where
    o : (k : ℕ) × (k < 8) × (s ≡ child_of (parent_of i) k)
    o = Contains-child_cases (parent_of i) s sibling

    meets : Meet shape (box_of shape i) (box_of shape s)
    meets =
        subst (λ j. Meet shape (box_of shape j) (box_of shape s)) (sym (child_of_parent i deep))
        (subst (λ j. Meet shape (box_of shape (child_of (parent_of i) (octant_of i))) (box_of shape j)) (sym o.2)
        (siblings_meet shape (parent_of i) (octant_of i) o.0 (octant_small i is deep) o.1))

    by : (id_eq i s ≡ true) ⊎ (id_eq i s ≡ false) → (s ≡ i) ⊎ (touches shape i s ≡ true)
    by (inl same) = inl (sym ((id_eq_is_equal i s).0 same))
    by (inr differ) = inr ((touches_decides shape i s).1 ((λ same. both_ways (id_eq i s) differ ((id_eq_is_equal i s).1 same)), meets))

-- a test of all linked leaves
linked_all : (shape : Shape) (ids : List BlockId) (owner : BlockId → ℕ) (p : BlockId → Bool) (i : BlockId)
    → list_all (λ (link : Link). p link.id) (links_of shape ids owner i) ≡ list_all (λ j. not (touches shape i j) || p j) ids
linked_all shape ids owner p i = by ids
  where
    by : (is : List BlockId) → list_all (λ (link : Link). p link.id) (map (link_to owner) (filter (touches shape i) is)) ≡ list_all (λ j. not (touches shape i j) || p j) is
    by [] = refl
    by (j ∷ is) = at (touches shape i j) (by is)
      where
        at : (b : Bool) → list_all (λ (link : Link). p link.id) (map (link_to owner) (filter (touches shape i) is)) ≡ list_all (λ j. not (touches shape i j) || p j) is
            → list_all (λ (link : Link). p link.id) (map (link_to owner) (cond b (j ∷ filter (touches shape i) is) (filter (touches shape i) is)))
            ≡ ((not b || p j) && list_all (λ j. not (touches shape i j) || p j) is)
        at true later = ap (λ b. p j && b) later
        at false later = later

-- ---- flags of the leaves deeper than a level

abbrev pub deeper : List BlockId → (flag : BlockId → Bool) → (level : ℕ) → List BlockId
deeper ids flag level = filter (λ i. nat_lt level (level_of i) && flag i) ids

pub next_deeper : (before l : ℕ) → (l == suc before) ≡ false → nat_lt (suc before) l ≡ nat_lt before l
next_deeper before l other = grind (arith, nat_tests)

module _ (shape : Shape) (ids : List BlockId) (rises : AllPairs IsBefore ids) (owner : BlockId → ℕ) where
  -- one level more
  one_more : (flag : BlockId → Bool) (before : ℕ) (i : BlockId)
      → ((level_of i == suc before && is_among (deeper ids flag before) i) || is_among (deeper ids flag (suc before)) i) ≡ is_among (deeper ids flag before) i
  one_more flag before i =
      ap (λ b. (level_of i == suc before && b) || is_among (deeper ids flag (suc before)) i) (among_filtered (λ i. nat_lt before (level_of i) && flag i) ids i)
      ∙ ap (λ b. (level_of i == suc before && (is_among ids i && (nat_lt before (level_of i) && flag i))) || b) (among_filtered (λ i. nat_lt (suc before) (level_of i) && flag i) ids i)
      ∙ tests (is_among ids i) (flag i) (level_of i == suc before) (nat_lt before (level_of i)) (nat_lt (suc before) (level_of i)) (joined (level_of i))
      ∙ sym (among_filtered (λ i. nat_lt before (level_of i) && flag i) ids i)
    where
      joined : (n : ℕ) → ((n == suc before && nat_lt before n) || nat_lt (suc before) n) ≡ nat_lt before n
      joined n = grind (arith, nat_tests)

      and_one : (a : Bool) → (a && true) ≡ a
      and_one true = refl
      and_one false = refl

      none : (a b c : Bool) → ((a && (b && false)) || (c && false)) ≡ (b && false)
      none true true true = refl
      none true true false = refl
      none true false true = refl
      none true false false = refl
      none false true true = refl
      none false true false = refl
      none false false true = refl
      none false false false = refl

      tests : (a f l b n : Bool) → ((l && b) || n) ≡ b → ((l && (a && (b && f))) || (a && (n && f))) ≡ (a && (b && f))
      tests true true l b n is = ap (λ c. (l && c) || (n && true)) (and_one b) ∙ ap (λ c. (l && b) || c) (and_one n) ∙ is ∙ sym (and_one b)
      tests true false l b n is = none l b n
      tests false f true b n is = refl
      tests false f false b n is = refl

  -- with what was heard of the levels below a rank has heard of all leaves of its neighbours that have the flag
  module _ (members : List ℕ) (owned : AreOwned ids owner members) (flag : BlockId → Bool) (before : ℕ) (rank : ℕ) where
    abbrev pub level_told : (from to : ℕ) → List BlockId
    level_told from to = filter (λ i. level_of i == suc before) (filter (is_own owner from) (deeper ids flag before))

    pub level_heard : (peers : List ℕ) → peers ≡ filter (is_neighbor shape ids owner rank) members
        → put_all (filter (is_neighbors shape ids owner rank) (deeper ids flag (suc before))) (gathered (λ peer (msg : List BlockId). msg) level_told rank peers)
        ≡ filter (is_neighbors shape ids owner rank) (deeper ids flag before)
    level_heard peers are =
        put_all_is gained (filter theirs (deeper ids flag (suc before))) (filter theirs (deeper ids flag before))
        (AllPairs-filter IsBefore theirs (deeper ids flag (suc before)) (AllPairs-filter IsBefore (λ i. nat_lt (suc before) (level_of i) && flag i) ids rises))
        (AllPairs-filter IsBefore theirs (deeper ids flag before) (AllPairs-filter IsBefore (λ i. nat_lt before (level_of i) && flag i) ids rises))
        (λ i.
        ap (λ b. b || is_among (filter theirs (deeper ids flag (suc before))) i)
        (heard_is shape ids owner members owned (deeper ids flag before) (λ i has. (Contains-filter_cases (λ i. nat_lt before (level_of i) && flag i) ids i has).0)
        (λ to i. level_of i == suc before) level_told telling rank peers are i)
        ∙ ap (λ b. (theirs i && (level_of i == suc before && is_among (deeper ids flag before) i)) || b) (among_filtered theirs (deeper ids flag (suc before)) i)
        ∙ tests (theirs i) (level_of i == suc before && is_among (deeper ids flag before) i) (is_among (deeper ids flag (suc before)) i)
        ∙ ap (λ b. b && theirs i) (one_more flag before i)
        ∙ sym (among_filtered theirs (deeper ids flag before) i))
      where
        theirs : BlockId → Bool
        theirs = is_neighbors shape ids owner rank

        gained : List BlockId
        gained = gathered (λ peer (msg : List BlockId). msg) level_told rank peers

        telling : (from to : ℕ) (i : BlockId) → is_among (level_told from to) i ≡ (is_own owner from i && (level_of i == suc before && is_among (deeper ids flag before) i))
        telling from to i =
            among_filtered (λ i. level_of i == suc before) (filter (is_own owner from) (deeper ids flag before)) i
            ∙ ap (λ b. b && level_of i == suc before) (among_filtered (is_own owner from) (deeper ids flag before) i)
            ∙ swap (is_among (deeper ids flag before) i) (is_own owner from i) (level_of i == suc before)
          where
            swap : (a b c : Bool) → ((a && b) && c) ≡ (b && (c && a))
            swap true true true = refl
            swap true true false = refl
            swap true false c = refl
            swap false true true = refl
            swap false true false = refl
            swap false false c = refl

        tests : (s l f : Bool) → ((s && l) || (f && s)) ≡ ((l || f) && s)
        tests true true f = refl
        tests true false true = refl
        tests true false false = refl
        tests false true true = refl
        tests false true false = refl
        tests false false true = refl
        tests false false false = refl

  -- what a rank knows of neighbours' flags tells it of each leaf that touches one of its own
  pub known_neighbors : (flags : List BlockId) (rank : ℕ) (j : BlockId) → Contains ids j → is_near shape ids owner rank j ≡ true
      → is_flagged (record { own = filter (is_own owner rank) flags; heard = filter (is_neighbors shape ids owner rank) flags }) j ≡ is_among flags j
  known_neighbors flags rank j has near =
      ap (λ b. b || is_among (filter (is_neighbors shape ids owner rank) flags) j) (among_filtered (is_own owner rank) flags j)
      ∙ ap (λ b. (is_among flags j && is_own owner rank j) || b) (among_filtered (is_neighbors shape ids owner rank) flags j)
      ∙ ap (λ b. (is_among flags j && is_own owner rank j) || (is_among flags j && b)) (near_neighbors shape ids owner rank j has near)
      ∙ tests (is_among flags j) (is_own owner rank j)
    where
      tests : (f o : Bool) → ((f && o) || (f && not o)) ≡ f
      tests true true = refl
      tests true false = refl
      tests false o = refl

  -- and of its own
  pub known_own : (flags : List BlockId) (rank : ℕ) (j : BlockId) → is_own owner rank j ≡ true
      → is_flagged (record { own = filter (is_own owner rank) flags; heard = filter (is_neighbors shape ids owner rank) flags }) j ≡ is_among flags j
  known_own flags rank j own =
      ap (λ b. b || is_among (filter (is_neighbors shape ids owner rank) flags) j) (among_filtered (is_own owner rank) flags j)
      ∙ ap (λ b. (is_among flags j && is_own owner rank j) || b) (among_filtered (is_neighbors shape ids owner rank) flags j)
      ∙ ap (λ b. (is_among flags j && b) || (is_among flags j && (not b && list_any (λ k. is_own owner rank k && is_near shape ids owner (owner j) k) ids))) own
      ∙ tests (is_among flags j)
    where
      tests : (f : Bool) → ((f && true) || (f && false)) ≡ f
      tests true = refl
      tests false = refl

-- a leaf that wishes it begins a chain
chain_begins : (shape : Shape) (ids : List BlockId) (w : Wishes) (i : BlockId) → Contains ids i → w.finer i ≡ true → Chain shape ids w 0 i
unfolding Chain
chain_begins shape ids w i has finer = (has, finer)

module _ (shape : Shape) (ids : List BlockId) (rises : AllPairs IsBefore ids) (w : Wishes) (owner : BlockId → ℕ) (rank : ℕ) where
  abbrev pub R : List BlockId
  R = refined_ids shape ids w

  abbrev pub is_merging : BlockId → Bool
  is_merging i = merges shape ids w R (parent_of i)

  -- ---- which leaves of a level may merge

  module _ (before told_may : ℕ) where
    abbrev pub asked : MarksValue
    asked = share shape ids w owner (found_below shape ids w told_may (suc before)) (found_below shape ids w (suc before) (suc before)) rank

    may_is : (i : BlockId) → Contains ids i → is_own owner rank i ≡ true → level_of i ≡ suc before → may_merge asked i (links_of shape ids owner i) ≡ may_merge_in shape ids w R i
    may_is i has own here =
        ap (λ b. b && (not (is_among asked.refined.own i) && (calm && finer))) coarser_is
        ∙ ap (λ b. (not (w.finer i) && w.coarser i) && (not b && (calm && finer))) (own_known shape ids rises w owner R rank i own)
        ∙ ap (λ b. (not (w.finer i) && w.coarser i) && (not (is_among R i) && (b && finer))) calm_is
        ∙ ap (λ b. (not (w.finer i) && w.coarser i) && (not (is_among R i) && (not beside && b))) finer_is
        ∙ tests (w.finer i) (w.coarser i) (is_among R i) (not beside && all_merge) wished
      where
        calm : Bool
        calm = is_calm asked.refined i (links_of shape ids owner i)

        finer : Bool
        finer = finer_merge asked.merging i (links_of shape ids owner i)

        beside : Bool
        beside = list_any (λ j. touches shape i j && (level_of j == level_of i && is_among R j)) ids

        all_merge : Bool
        all_merge = list_all (λ j. not (touches shape i j) || (not (level_of j == level_of i + 1) || is_merging j)) ids

        coarser_is : is_among asked.coarser i ≡ (not (w.finer i) && w.coarser i)
        coarser_is = chosen_passes (λ i. is_coarsen (wish_of w i)) (filter (is_own owner rank) ids) i (Contains-filter (is_own owner rank) ids i has own) ∙ wish_is_coarsen w i

        calm_is : calm ≡ not beside
        calm_is = ap not
            (linked_alike shape ids owner (λ j. level_of j == level_of i && is_flagged asked.refined j) (λ j. level_of j == level_of i && is_among R j) i
            (λ j in' touch. ap (λ b. level_of j == level_of i && b) (known_refined shape ids rises w owner R rank j (near_by shape ids owner rank i j has own touch)))
            ∙ links_any shape ids owner (λ j. level_of j == level_of i && is_among R j) i)

        finer_is : finer ≡ all_merge
        finer_is =
            linked_all shape ids owner (λ j. not (level_of j == level_of i + 1) || is_flagged asked.merging j) i
            ∙ all_alike (λ j. not (touches shape i j) || (not (level_of j == level_of i + 1) || is_flagged asked.merging j))
            (λ j. not (touches shape i j) || (not (level_of j == level_of i + 1) || is_merging j)) ids
            (λ j in'. told j in' (touches shape i j) refl (level_of j == level_of i + 1) refl)
          where
            told : (j : BlockId) → Contains ids j → (b : Bool) → touches shape i j ≡ b → (c : Bool) → (level_of j == level_of i + 1) ≡ c
                → (not b || (not c || is_flagged asked.merging j)) ≡ (not b || (not c || is_merging j))
            told j in' true touch true next =
                let level : level_of j ≡ level_of i + 1 = eqb-true (level_of j) (level_of i + 1) next in
                let deep : nat_lt (suc before) (level_of j) ≡ true = lt-ltb (suc before) (level_of j) (omega arith) in
                known_neighbors shape ids rises owner (merging_below shape ids w R (suc before)) rank j in' (near_by shape ids owner rank i j has own touch)
                ∙ chosen_passes (λ i. nat_lt (suc before) (level_of i) && is_merging i) ids j in'
                ∙ ap (λ b. b && is_merging j) deep
            told j in' true touch false other = refl
            told j in' false apart c other = refl

        wished : w.finer i ≡ true → is_among R i ≡ true
        wished finest = among_is R i (within_from_chain shape ids w 4 0 i (omega arith) (chain_begins shape ids w i has finest))

        tests : (f c r b : Bool) → (f ≡ true → r ≡ true) → ((not f && c) && (not r && b)) ≡ (c && (not r && b))
        tests true true true b is = refl
        tests true true false b is = let wrong : false ≡ true = is refl in absurd (cc)
        tests true false r b is = refl
        tests false true r b is = refl
        tests false false r b is = refl

    pub asked_next : (links : List (List Link)) → links ≡ map (links_of shape ids owner) (filter (is_own owner rank) ids)
        → may_marks (suc before) links asked ≡ share shape ids w owner (found_below shape ids w told_may (suc before)) (found_below shape ids w before (suc before)) rank
    asked_next links are =
        ap (λ links. may_marks (suc before) links asked) are
        ∙ ap (λ own. record asked { may = record asked.may { own = own } })
        (chosen_of (λ i links. cond (level_of i == suc before) (may_merge asked i links) (is_among asked.may.own i)) (links_of shape ids owner) (filter (is_own owner rank) ids)
        ∙ filter_where (λ i. cond (level_of i == suc before) (may_merge asked i (links_of shape ids owner i)) (is_among asked.may.own i))
        (λ i. nat_lt before (level_of i) && may_merge_in shape ids w R i) (filter (is_own owner rank) ids)
        (λ i has. let kept = Contains-filter_cases (is_own owner rank) ids i has in at i kept.0 kept.1 (level_of i == suc before) refl)
        ∙ filter_swap (λ i. nat_lt before (level_of i) && may_merge_in shape ids w R i) (is_own owner rank) ids)
      where
        at : (i : BlockId) → Contains ids i → is_own owner rank i ≡ true → (b : Bool) → (level_of i == suc before) ≡ b
            → cond b (may_merge asked i (links_of shape ids owner i)) (is_among asked.may.own i) ≡ (nat_lt before (level_of i) && may_merge_in shape ids w R i)
        at i has own true same =
            let here : level_of i ≡ suc before = eqb-true (level_of i) (suc before) same in
            let deep : nat_lt before (level_of i) ≡ true = lt-ltb before (level_of i) (omega arith) in
            may_is i has own here ∙ ap (λ b. b && may_merge_in shape ids w R i) (sym deep)
        at i has own false other =
            own_known shape ids rises w owner (mays_below shape ids w R (suc before)) rank i own
            ∙ chosen_passes (λ i. nat_lt (suc before) (level_of i) && may_merge_in shape ids w R i) ids i has
            ∙ ap (λ b. b && may_merge_in shape ids w R i) (next_deeper before (level_of i) other)

  -- ---- which of them merge

  module _ (sound : All IsId ids) (low : All (λ j. level_of j ≤ 4) ids) (before : ℕ) where
    abbrev mays : List BlockId
    mays = mays_below shape ids w R before

    module _ (told_merging : ℕ) where
      abbrev pub settled_marks : MarksValue
      settled_marks = share shape ids w owner (found_below shape ids w before told_merging) (found_below shape ids w before (suc before)) rank

      merges_is : (i : BlockId) → Contains ids i → is_own owner rank i ≡ true → level_of i ≡ suc before → octet_may settled_marks.may i ≡ is_merging i
      merges_is i has own here =
          ap (λ b. b && list_all (is_flagged settled_marks.may) (children_of (parent_of i))) (lt-ltb 0 (level_of i) deep)
          ∙ all_alike (is_flagged settled_marks.may) (is_among mays) (children_of (parent_of i))
          (λ s child. known s (is_among mays s) refl (sibling_touches shape i s (All-contains IsId ids i sound has) deep child))
          ∙ octet_is shape ids w low before (parent_of i) (omega (arith, level-parent i (child_of_parent i deep)))
        where
          deep : 0 < level_of i
          deep = omega arith

          none_flagged : (s : BlockId) → is_among mays s ≡ false → is_flagged settled_marks.may s ≡ false
          none_flagged s none =
              ap (λ b. b || is_among settled_marks.may.heard s) (among_filtered (is_own owner rank) mays s)
              ∙ ap (λ b. (is_among mays s && is_own owner rank s) || b) (among_filtered (is_neighbors shape ids owner rank) mays s)
              ∙ ap (λ b. (b && is_own owner rank s) || (b && is_neighbors shape ids owner rank s)) none

          known : (s : BlockId) (b : Bool) → is_among mays s ≡ b → (s ≡ i) ⊎ (touches shape i s ≡ true) → is_flagged settled_marks.may s ≡ is_among mays s
          known s b is (inl same) = known_own shape ids rises owner mays rank s (ap (is_own owner rank) same ∙ own)
          known s true is (inr touch) =
              known_neighbors shape ids rises owner mays rank s
              (Contains-filter_cases (λ i. nat_lt before (level_of i) && may_merge_in shape ids w R i) ids s (among_has mays s is)).0
              (near_by shape ids owner rank i s has own touch)
          known s false is (inr touch) = none_flagged s is ∙ sym is

      pub settled_next : merging_marks (suc before) settled_marks ≡ share shape ids w owner (found_below shape ids w before told_merging) (found_below shape ids w before before) rank
      settled_next =
          ap (λ own. record settled_marks { merging = record settled_marks.merging { own = own } })
          (filter_where (λ i. cond (level_of i == suc before) (octet_may settled_marks.may i) (is_among settled_marks.merging.own i)) (λ i. nat_lt before (level_of i) && is_merging i)
          (filter (is_own owner rank) ids)
          (λ i has. let kept = Contains-filter_cases (is_own owner rank) ids i has in at i kept.0 kept.1 (level_of i == suc before) refl)
          ∙ filter_swap (λ i. nat_lt before (level_of i) && is_merging i) (is_own owner rank) ids)
        where
          at : (i : BlockId) → Contains ids i → is_own owner rank i ≡ true → (b : Bool) → (level_of i == suc before) ≡ b
              → cond b (octet_may settled_marks.may i) (is_among settled_marks.merging.own i) ≡ (nat_lt before (level_of i) && is_merging i)
          at i has own true same =
              let here : level_of i ≡ suc before = eqb-true (level_of i) (suc before) same in
              let deep : nat_lt before (level_of i) ≡ true = lt-ltb before (level_of i) (omega arith) in
              merges_is i has own here ∙ ap (λ b. b && is_merging i) (sym deep)
          at i has own false other =
              own_known shape ids rises w owner (merging_below shape ids w R (suc before)) rank i own
              ∙ chosen_passes (λ i. nat_lt (suc before) (level_of i) && is_merging i) ids i has
              ∙ ap (λ b. b && is_merging i) (next_deeper before (level_of i) other)
