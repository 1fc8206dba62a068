-- Laws of buddies among members that rise.
use Rattle.std.proofs.Common.{◌≡◌, ◌≢◌, ℕ, ◌+◌, ◌-◌, ◌*◌, ◌%◌, ◌<◌, ◌≤◌, Bool, true, false, cond, not, ◌||◌, List, [], ◌∷◌, length, arith, refl, ap, sym, ◌∙◌}
use Rattle.std.specs.Prelude.{◌==◌, slice_index, IsTrue}
use Rattle.std.specs.List.Sorted.{IsStrictlyIncreasing}
use Rattle.std.proofs.Math.Nat.{add-mul-mod_self_right}
use Rattle.bf_buddy.specs.Members.{is_member, without}
use Rattle.bf_buddy.specs.Buddy.{place_of, buddy_place, buddy_of, predecessor_place, predecessor_of}
use Rattle.bf_buddy.proofs.BuddyLemmas.{place_found, at_place, place_at, buddy_at, predecessor_at, buddy_within, predecessor_within, buddy_moves, predecessor_of_buddy, buddy_of_predecessor, buddy_from, predecessor_from}

pub buddy_is_another : (members : List ℕ) (rank shift : ℕ) → IsStrictlyIncreasing members → IsTrue (is_member members rank)
    → 2 ≤ length members → buddy_of members rank shift ≢ rank
buddy_is_another members rank shift up member many same =
    let within : place_of members rank < length members = place_found members rank member in
    let next : buddy_place (length members) (place_of members rank) shift < length members = buddy_within (length members) (place_of members rank) shift within in
    buddy_moves (length members) (place_of members rank) shift within many
    (sym (place_at members up (buddy_place (length members) (place_of members rank) shift) next)
    ∙ ap (place_of members) (buddy_at members rank shift ∙ same))

pub lone_is_own : (members : List ℕ) (rank shift : ℕ) → IsTrue (is_member members rank) → length members ≡ 1 → buddy_of members rank shift ≡ rank
lone_is_own members rank shift member lone =
    let within : place_of members rank < length members = place_found members rank member in
    let next : buddy_place (length members) (place_of members rank) shift < length members = buddy_within (length members) (place_of members rank) shift within in
    let same : buddy_place (length members) (place_of members rank) shift ≡ place_of members rank = omega arith in
    sym (buddy_at members rank shift) ∙ ap (slice_index members) same ∙ at_place members rank member

pub predecessor_undoes : (members : List ℕ) (rank shift : ℕ) → IsStrictlyIncreasing members → IsTrue (is_member members rank)
    → predecessor_of members (buddy_of members rank shift) shift ≡ rank
predecessor_undoes members rank shift up member =
    let within : place_of members rank < length members = place_found members rank member in
    let next : buddy_place (length members) (place_of members rank) shift < length members = buddy_within (length members) (place_of members rank) shift within in
    ap (λ r. predecessor_of members r shift) (sym (buddy_at members rank shift))
    ∙ predecessor_from members up (buddy_place (length members) (place_of members rank) shift) shift next
    ∙ ap (slice_index members) (predecessor_of_buddy (length members) (place_of members rank) shift within)
    ∙ at_place members rank member

pub buddy_undoes : (members : List ℕ) (rank shift : ℕ) → IsStrictlyIncreasing members → IsTrue (is_member members rank)
    → buddy_of members (predecessor_of members rank shift) shift ≡ rank
buddy_undoes members rank shift up member =
    let within : place_of members rank < length members = place_found members rank member in
    let last : predecessor_place (length members) (place_of members rank) shift < length members = predecessor_within (length members) (place_of members rank) shift within in
    ap (λ r. buddy_of members r shift) (sym (predecessor_at members rank shift up member))
    ∙ buddy_from members up (predecessor_place (length members) (place_of members rank) shift) shift last
    ∙ ap (slice_index members) (buddy_of_predecessor (length members) (place_of members rank) shift within)
    ∙ at_place members rank member

pub ruleset buddy_facts = (buddy_at, buddy_is_another, predecessor_undoes)

pub ruleset predecessor_facts = (predecessor_at, buddy_undoes)

place_agrees : (count place shift turns : ℕ) → buddy_place count place (shift + turns * (count - 1)) ≡ buddy_place count place shift
unfolding buddy_place
place_agrees count place shift turns = ap (λ r. (place + 1 + r) % count) (add-mul-mod_self_right shift turns (count - 1))

pub shifts_agree : (members : List ℕ) (rank shift turns : ℕ) → buddy_of members rank (shift + turns * (length members - 1)) ≡ buddy_of members rank shift
shifts_agree members rank shift turns =
    sym (buddy_at members rank (shift + turns * (length members - 1)))
    ∙ ap (slice_index members) (place_agrees (length members) (place_of members rank) shift turns)
    ∙ buddy_at members rank shift

pub without_stranger : (members : List ℕ) (rank : ℕ) → is_member members rank ≡ false → without members rank ≡ members
without_stranger [] rank stranger = refl
without_stranger (first ∷ rest) rank stranger =
    kept (first == rank) (is_member rest rank) stranger (without_stranger rest rank)
  where
    kept : (same later : Bool) → (same || later) ≡ false → (later ≡ false → without rest rank ≡ rest) → cond (not same) (first ∷ without rest rank) (without rest rank) ≡ first ∷ rest
    kept true later stranger rest_stays = absurd (cc)
    kept false later stranger rest_stays = ap (λ ranks. first ∷ ranks) (rest_stays stranger)
