-- Where ranks stand in the lockstep of an epoch.
use Rattle.std.proofs.Common.{◌≡◌, ℕ, zero, suc, ◌+◌, ◌-◌, ◌<◌, ◌≤◌, Bool, true, false, List, [], ◌∷◌, length, nat_lt, arith, refl, sym}
use Rattle.std.specs.Prelude.{Some, None, slice_get, if◌then◌else◌}
use Rattle.std.proofs.lemmas.Bool.{ltb-true, ltb-false}
use Rattle.std.proofs.lemmas.Option.{slice_get_within}
use Rattle.bf_program.specs.declared.epoch.Epoch.{Epoch}
use Rattle.bf_program.specs.Meanings.{Meanings}
use Rattle.bf_core.specs.declared.place.Place.{Place}
use Rattle.bf_core.specs.declared.place.Place.TheVariants.{Rounds, Past}
use Rattle.bf_core.specs.Places.{next_send, next_receive}
use Rattle.bf_world.specs.Course.{peers_at, place_with, place_from, after_send, after_receive}

module _ {S L M T R : Type 0} (m : Meanings S L M T R) (setup : S) (epoch : Epoch) (start : List L) where
  -- a place in a round with peers that are not all heard, after all sends to them
  pub record IsInRound (rank round sent received : ℕ) (peers : List ℕ) : Type 0 where
    pub within : round < m.rounds setup epoch
    pub peers_are : peers ≡ peers_at m setup epoch start rank round
    pub sends : sent ≤ length peers
    pub receives : received < length peers
    pub in_turn : sent < length peers → received ≡ 0

  abbrev pub IsPlaced : (rank : ℕ) → Place → Type 0
  IsPlaced rank (Rounds round sent received peers) = IsInRound rank round sent received peers
  IsPlaced rank Past = Unit {0}

  pub placed_from : (rank left round : ℕ) → round + left ≡ m.rounds setup epoch → IsPlaced rank (place_from m setup epoch start rank left round)
  unfolding place_from
  placed_from rank zero round whole = tt
  placed_from rank (suc left) round whole = by_peers (peers_at m setup epoch start rank round) refl (placed_from rank left (round + 1) (omega arith))
    where
      by_peers : (peers : List ℕ) → peers_at m setup epoch start rank round ≡ peers → IsPlaced rank (place_from m setup epoch start rank left (round + 1))
          → IsPlaced rank (place_with round peers (place_from m setup epoch start rank left (round + 1)))
      by_peers [] none later = later
      by_peers (peer ∷ peers) some later = record {
        within = omega (arith, whole);
        peers_are = sym some;
        sends = omega arith;
        receives = omega arith;
        in_turn = λ _. refl;
      }

  pub placed_send : (rank : ℕ) (place : Place) (to : ℕ) → IsPlaced rank place → next_send place ≡ Some to → IsPlaced rank (after_send place)
  placed_send rank Past to placed sends = tt
  placed_send rank (Rounds round sent received peers) to placed sends =
      let below : sent < length peers = slice_get_within peers sent to sends in
      record {
        within = placed.within;
        peers_are = placed.peers_are;
        sends = omega (arith, below);
        receives = placed.receives;
        in_turn = λ more. placed.in_turn (omega (arith, more));
      }

  -- the peer of the next receive stands at its place among the peers, after all sends
  pub receives_at : (round sent received peer : ℕ) (peers : List ℕ) → next_receive (Rounds round sent received peers) ≡ Some peer
      → (length peers ≤ sent) × (slice_get peers received ≡ Some peer)
  receives_at round sent received peer peers next = by_sent (nat_lt sent (length peers)) refl next
    where
      by_sent : (b : Bool) → nat_lt sent (length peers) ≡ b → (if b then None else slice_get peers received) ≡ Some peer
          → (length peers ≤ sent) × (slice_get peers received ≡ Some peer)
      by_sent true more none = absurd (cc)
      by_sent false all found = (ltb-false sent (length peers) all, found)

  pub placed_receive : (rank : ℕ) (place : Place) (peer : ℕ) → IsPlaced rank place → next_receive place ≡ Some peer
      → IsPlaced rank (after_receive m setup epoch start rank place)
  placed_receive rank Past peer placed receives = tt
  placed_receive rank (Rounds round sent received peers) peer placed receives =
      by_last (nat_lt (received + 1) (length peers)) refl
    where
      at : (length peers ≤ sent) × (slice_get peers received ≡ Some peer)
      at = receives_at round sent received peer peers receives

      by_last : (b : Bool) → nat_lt (received + 1) (length peers) ≡ b
          → IsPlaced rank (if b then Rounds round sent (received + 1) peers else place_from m setup epoch start rank (m.rounds setup epoch - (round + 1)) (round + 1))
      by_last true more = record {
        within = placed.within;
        peers_are = placed.peers_are;
        sends = placed.sends;
        receives = ltb-true (received + 1) (length peers) more;
        in_turn = λ less. absurd (omega (arith, less, at.0));
      }
      by_last false last = placed_from rank _ (round + 1) (omega (arith, placed.within))
