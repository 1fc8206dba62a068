-- Stages in which leaves become others at their owners: parts, owners and what they weigh. They are for leaves that are refined and merge, which no program has yet.
use Rattle.std.proofs.Common.{◌≡◌, ℕ, ◌+◌, Bool, true, false, cond, List, [], ◌∷◌, ◌++◌, map, filter, flat_map, refl, sym, ap, ◌∙◌, subst}
use Rattle.std.specs.Prelude.{◌==◌, All}
use Rattle.std.specs.List.{count_by}
use Rattle.std.proofs.lemmas.List.{map-append}
use Rattle.std.proofs.lemmas.List.Elements.{All-nil, All-cons, All-head, All-tail}
use Rattle.bf_buddy.specs.Members.{is_member}
use Rattle.bf_parts.specs.Counts.{once, count_append, count_cons}
use Rattle.bf_parts.specs.CoverLaws.{count_mapped}
use Rattle.bf_parts.specs.ChangeLaws.{heirs_filtered}
use Rattle.bf_parts.specs.Leaves.{Leaves, AreAmong, part_of}

map_flat : {K J X : Type 0} (f : J → X) (heirs : K → List J) (ks : List K) → map f (flat_map heirs ks) ≡ flat_map (λ k. map f (heirs k)) ks
map_flat f heirs [] = refl
map_flat {X = X} f heirs (k ∷ ks) = map-append f (heirs k) (flat_map heirs ks) ∙ ap (λ (rest : List X). map f (heirs k) ++ rest) (map_flat f heirs ks)

flat_of_map : {K I X : Type 0} (make : I → List X) (item : K → I) (into : K → List X) (p : K → Bool) (ks : List K) → All (λ k. p k ≡ true → make (item k) ≡ into k) ks
    → flat_map make (map item (filter p ks)) ≡ flat_map into (filter p ks)
flat_of_map make item into p [] same = refl
flat_of_map {K = K} {X = X} make item into p (k ∷ ks) same =
    at (p k) (All-head (λ k. p k ≡ true → make (item k) ≡ into k) k ks same) (flat_of_map make item into p ks (All-tail (λ k. p k ≡ true → make (item k) ≡ into k) k ks same))
  where
    at : (b : Bool) → (b ≡ true → make (item k) ≡ into k) → flat_map make (map item (filter p ks)) ≡ flat_map into (filter p ks)
        → flat_map make (map item (cond b (k ∷ filter p ks) (filter p ks))) ≡ flat_map into (cond b (k ∷ filter p ks) (filter p ks))
    at true here later = ap (λ (xs : List X). xs ++ flat_map make (map item (filter p ks))) (here refl) ∙ ap (λ (rest : List X). into k ++ rest) later
    at false here later = later

count_flat : {K X : Type 0} (test : X → Bool) (into : K → List X) (before p : K → Bool) (ks : List K) → All (λ k. count_by test (into k) ≡ once (before k)) ks
    → count_by test (flat_map into (filter p ks)) ≡ count_by before (filter p ks)
count_flat test into before p [] same = refl
count_flat {K = K} test into before p (k ∷ ks) same =
    at (p k) (All-head (λ k. count_by test (into k) ≡ once (before k)) k ks same) (count_flat test into before p ks (All-tail (λ k. count_by test (into k) ≡ once (before k)) k ks same))
  where
    at : (b : Bool) → count_by test (into k) ≡ once (before k) → count_by test (flat_map into (filter p ks)) ≡ count_by before (filter p ks)
        → count_by test (flat_map into (cond b (k ∷ filter p ks) (filter p ks))) ≡ count_by before (cond b (k ∷ filter p ks) (filter p ks))
    at true here later =
        count_append test (into k) (flat_map into (filter p ks)) ∙ ap (λ n. n + count_by test (flat_map into (filter p ks))) here ∙ ap (λ n. once (before k) + n) later
        ∙ sym (count_cons before k (filter p ks))
    at false here later = later

all_heirs : {K J : Type 0} (P : K → Type 0) (Q : J → Type 0) (R : K → J → Type 0) (heirs : K → List J) → ((k : K) (j : J) → P k → R k j → Q j) → (ks : List K) → All P ks
    → All (λ k. All (R k) (heirs k)) ks → All Q (flat_map heirs ks)
all_heirs P Q R heirs step [] one two = All-nil Q
all_heirs {J = J} P Q R heirs step (k ∷ ks) one two =
    joined (heirs k) (flat_map heirs ks) (each (heirs k) (All-head (λ k. All (R k) (heirs k)) k ks two))
    (all_heirs P Q R heirs step ks (All-tail P k ks one) (All-tail (λ k. All (R k) (heirs k)) k ks two))
  where
    joined : (xs ys : List J) → All Q xs → All Q ys → All Q (xs ++ ys)
    joined [] ys first then = then
    joined (x ∷ xs) ys first then = All-cons Q x (xs ++ ys) (All-head Q x xs first) (joined xs ys (All-tail Q x xs first) then)

    each : (js : List J) → All (R k) js → All Q js
    each [] all = All-nil Q
    each (j ∷ js) all = All-cons Q j js (step k j (All-head P k ks one) (All-head (R k) j js all)) (each js (All-tail (R k) j js all))

-- leaves that become heirs, each at its owner
module _ {K I : Type 0} (now next : Leaves K I) (heirs : K → List K) (keys_are : next.keys ≡ flat_map heirs now.keys) (owner later : K → ℕ)
    (inherit : All (λ k. All (λ j. later j ≡ owner k) (heirs k)) now.keys) where
  -- the part of the new leaves is what is made of each item of the part of the old
  pub split_part : (make : I → List I) (rank : ℕ) → All (λ k. (owner k == rank) ≡ true → make (now.item owner k) ≡ map (next.item later) (heirs k)) now.keys → flat_map make (part_of now owner rank) ≡ part_of next later rank
  unfolding part_of
  split_part make rank makes =
      flat_of_map make (now.item owner) (λ k. map (next.item later) (heirs k)) (λ k. owner k == rank) now.keys makes
      ∙ sym (map_flat (next.item later) heirs (filter (λ k. owner k == rank) now.keys))
      ∙ ap (map (next.item later)) (sym (heirs_filtered heirs owner later rank now.keys inherit) ∙ ap (filter (λ j. later j == rank)) (sym keys_are))

  pub split_owned : (members : List ℕ) → AreAmong members now owner → AreAmong members next later
  split_owned members owned = subst (λ (ks : List K). All (λ j. is_member members (later j) ≡ true) ks) (sym keys_are)
      (all_heirs (λ k. is_member members (owner k) ≡ true) (λ j. is_member members (later j) ≡ true) (λ k j. later j ≡ owner k) heirs
      (λ k j is_in its. ap (is_member members) its ∙ is_in) now.keys owned inherit)

  -- where heirs together weigh what their leaf does, so do the parts
  pub split_weighs : (test : I → Bool) → All (λ k. count_by test (map (next.item later) (heirs k)) ≡ once (test (now.item owner k))) now.keys → (rank : ℕ)
      → count_by test (part_of next later rank) ≡ count_by test (part_of now owner rank)
  unfolding part_of
  split_weighs test same rank =
      ap (λ (js : List K). count_by test (map (next.item later) js)) (ap (filter (λ j. later j == rank)) keys_are ∙ heirs_filtered heirs owner later rank now.keys inherit)
      ∙ ap (count_by test) (map_flat (next.item later) heirs (filter (λ k. owner k == rank) now.keys))
      ∙ count_flat test (λ k. map (next.item later) (heirs k)) (λ k. test (now.item owner k)) (λ k. owner k == rank) now.keys same
      ∙ sym (count_mapped (now.item owner) test (λ k. test (now.item owner k)) (λ k. refl) (filter (λ k. owner k == rank) now.keys))

-- leaves that join, where all that join into one are at its owner
module _ {K I : Type 0} (now next : Leaves K I) (joining : K → List K) (keys_are : now.keys ≡ flat_map joining next.keys) (owner later : K → ℕ)
    (inherit : All (λ k. All (λ j. owner j ≡ later k) (joining k)) next.keys) where
  pub join_part : (rank : ℕ) → part_of now owner rank ≡ flat_map (λ k. map (now.item owner) (joining k)) (filter (λ k. later k == rank) next.keys)
  unfolding part_of
  join_part rank =
      ap (λ (js : List K). map (now.item owner) js) (ap (filter (λ j. owner j == rank)) keys_are ∙ heirs_filtered joining later owner rank next.keys inherit)
      ∙ map_flat (now.item owner) joining (filter (λ k. later k == rank) next.keys)

  pub join_weighs : (test : I → Bool) → All (λ k. count_by test (map (now.item owner) (joining k)) ≡ once (test (next.item later k))) next.keys → (rank : ℕ)
      → count_by test (part_of next later rank) ≡ count_by test (part_of now owner rank)
  unfolding part_of
  join_weighs test same rank =
      count_mapped (next.item later) test (λ k. test (next.item later k)) (λ k. refl) (filter (λ k. later k == rank) next.keys)
      ∙ sym (count_flat test (λ k. map (now.item owner) (joining k)) (λ k. test (next.item later k)) (λ k. later k == rank) next.keys same)
      ∙ ap (count_by test) (sym (join_part rank))
