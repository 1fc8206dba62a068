-- The members that are peers, as all others are taken out.
use Rattle.std.proofs.Common.{◌≡◌, ℕ, Bool, List, filter, refl}
use Rattle.std.specs.Prelude.{◌||◌, not}
use Rattle.bf_lemmas.proofs.Passes.{passed_start, passed_stays, passed_goes, passed_end}
use Rattle.bf_buddy.specs.Members.{is_member}
use Rattle.bf_buddy.proofs.MemberLemmas.{filter_members}

-- whether a rank isn't taken out: it is no member, or a peer
abbrev pub stays : (peer : ℕ → Bool) → (members : List ℕ) → (rank : ℕ) → Bool
stays peer members rank = not (is_member members rank) || peer rank

pub peers_stay : (peer : ℕ → Bool) (members : List ℕ) → filter (stays peer members) members ≡ filter peer members
peers_stay peer members = filter_members (stays peer members) peer members (λ rank is_in. rw is_in refl)

pub ruleset peer_steps = (passed_start, passed_stays, passed_goes, passed_end, peers_stay)
