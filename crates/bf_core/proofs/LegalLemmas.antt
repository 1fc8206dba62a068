-- What legal events tell.
use Rattle.std.proofs.Common.{◌≡◌, ℕ, ◌≤◌, ◌<◌, Bool, true, false, cond, not, ◌&&◌, List, length, arith, refl, ap, sym, ◌∙◌, subst, inl, inr}
use Rattle.std.specs.Prelude.{Option, None, Some, All, slice_get, nat_lt}
use Rattle.std.proofs.lemmas.Bool.{cases_lt, eqb-true, and_parts, false≢true}
use Rattle.std.proofs.lemmas.Option.{slice_get_within, get_or_from_slice_get}
use Rattle.std.proofs.lemmas.List.{get_or_past}
use Rattle.std.proofs.lemmas.List.Elements.{All-get_or}
use Rattle.bf_core.specs.declared.standing.Stage.{Stage}
use Rattle.bf_core.specs.declared.standing.Stage.TheVariants.{Gone}
use Rattle.bf_core.specs.declared.standing.Standing.{Standing}
use Rattle.bf_core.specs.declared.event.How.TheVariants.{Done, Broken, Memory}
use Rattle.bf_core.specs.declared.event.Event.{Event}
use Rattle.bf_core.specs.declared.event.Event.TheVariants.{Send, Recv, Arrive, Leave, Die}
use Rattle.bf_core.specs.declared.place.Place.{Place}
use Rattle.bf_core.specs.declared.place.Place.TheVariants.{Rounds, Past}
use Rattle.bf_core.specs.Stages.{is_running, is_leaving, goes_on}
use Rattle.bf_core.specs.Places.{is_just, next_send, next_receive, PeersBelow}
use Rattle.bf_core.specs.States.{State, IsState, standing, stage, is_due, is_active}
use Rattle.bf_core.specs.Legal.{actor, waits, is_legal, IsLegalSomewhere}

-- what is no rank is gone
gone_past : (state : State) (rank : ℕ) → IsState state → state.ranks ≤ rank → stage state rank ≡ Gone
gone_past state rank known past =
    let long : length state.standings ≡ state.ranks = known.every_standing in
    let over : length state.standings ≤ rank = omega arith in
    ap (λ (s : Standing). s.stage) (get_or_past state.standings rank (record { stage = Gone; death = None; events = 0 }) over)

-- a rank whose stage passes a test that is no rank's
rank_below : (test : Stage → Bool) (state : State) (rank : ℕ) → IsState state → test Gone ≡ false → test (stage state rank) ≡ true → rank < state.ranks
rank_below test state rank known fails passes =
    elim (cases_lt rank state.ranks) [
      | inl below ↦ below
      | inr past ↦ absurd (false≢true (sym fails ∙ ap test (sym (gone_past state rank known past)) ∙ passes))
    ]

active_below : (state : State) (rank : ℕ) → IsState state → is_active state rank ≡ true → rank < state.ranks
active_below state rank known active =
    rank_below is_running state rank known refl (and_parts (is_running (stage state rank)) (not (is_due state rank)) active).0

due_below : (state : State) (rank : ℕ) → IsState state → is_due state rank ≡ true → rank < state.ranks
due_below state rank known due =
    rank_below goes_on state rank known refl (and_parts (goes_on (stage state rank)) (is_just (standing state rank).death (standing state rank).events) due).0

first_of_three : (a b c : Bool) → (a && b && c) ≡ true → a ≡ true
first_of_three a b c all = (and_parts a b (and_parts (a && b) c all).0).0

-- the actor of a legal event is a rank
legal_below : (state : State) (event : Event) (place : Place) → IsState state → is_legal state event place ≡ true → actor event < state.ranks
legal_below state (Send rank to blocks sum) place known legal =
    active_below state rank known (and_parts (is_active state rank) (is_just (next_send place) to) legal).0
legal_below state (Recv rank peer) place known legal =
    active_below state rank known (first_of_three (is_active state rank) (is_just (next_receive place) peer) (not (waits state rank place)) legal)
legal_below state (Arrive rank Done) place known legal = active_below state rank known (and_parts _ _ legal).0
legal_below state (Arrive rank Broken) place known legal = active_below state rank known (and_parts _ _ (and_parts _ _ legal).0).0
legal_below state (Arrive rank Memory) place known legal = active_below state rank known legal
legal_below state (Leave rank) place known legal = rank_below is_leaving state rank known refl (and_parts (is_leaving (stage state rank)) (not (is_due state rank)) legal).0
legal_below state (Die rank) place known legal = due_below state rank known legal

pub actor_below : (state : State) (event : Event) → IsState state → IsLegalSomewhere state event → actor event < state.ranks
actor_below state event known (place, (peers, legal)) = legal_below state event place known legal

pub just_some : (o : Option ℕ) (n : ℕ) → is_just o n ≡ true → o ≡ Some n
just_some (Some m) n same = ap Some (eqb-true m n same)
just_some None n same = absurd (false≢true same)

got_below : (peers : List ℕ) (i n ranks : ℕ) → All (λ peer. peer < ranks) peers → slice_get peers i ≡ Some n → n < ranks
got_below peers i n ranks below got =
    subst (λ (m : ℕ). m < ranks) (get_or_from_slice_get peers i n 0 got) (All-get_or (λ peer. peer < ranks) peers i 0 (slice_get_within peers i n got) below)

send_peer : (ranks : ℕ) (place : Place) (to : ℕ) → PeersBelow ranks place → next_send place ≡ Some to → to < ranks
send_peer ranks (Rounds round sent received peers) to below got = got_below peers sent to ranks below got
send_peer ranks Past to below got = absurd (cc)

receive_peer : (ranks : ℕ) (place : Place) (peer : ℕ) → PeersBelow ranks place → next_receive place ≡ Some peer → peer < ranks
receive_peer ranks (Rounds round sent received peers) peer below got = after_sends (nat_lt sent (length peers)) got
  where
    after_sends : (b : Bool) → cond b None (slice_get peers received) ≡ Some peer → peer < ranks
    after_sends true found = absurd (cc)
    after_sends false found = got_below peers received peer ranks below found
receive_peer ranks Past peer below got = absurd (cc)

pub send_below : (state : State) (rank to blocks sum : ℕ) → IsLegalSomewhere state (Send rank to blocks sum) → to < state.ranks
send_below state rank to blocks sum (place, (peers, legal)) =
    send_peer state.ranks place to peers (just_some (next_send place) to (and_parts (is_active state rank) (is_just (next_send place) to) legal).1)

received : (state : State) (rank peer : ℕ) (place : Place) → is_legal state (Recv rank peer) place ≡ true → next_receive place ≡ Some peer
received state rank peer place legal =
    just_some (next_receive place) peer
    (and_parts (is_active state rank) (is_just (next_receive place) peer)
    (and_parts (is_active state rank && is_just (next_receive place) peer) (not (waits state rank place)) legal).0).1

pub receive_below : (state : State) (rank peer : ℕ) → IsLegalSomewhere state (Recv rank peer) → peer < state.ranks
receive_below state rank peer (place, (peers, legal)) = receive_peer state.ranks place peer peers (received state rank peer place legal)

-- the same of an event that is another by an equation
pub actor_of : (state : State) (event same : Event) → IsState state → IsLegalSomewhere state event → event ≡ same → actor same < state.ranks
actor_of state event same known legal is = subst (λ (e : Event). actor e < state.ranks) is (actor_below state event known legal)

pub to_of : (state : State) (event : Event) (rank to blocks sum : ℕ) → IsLegalSomewhere state event → event ≡ Send rank to blocks sum → to < state.ranks
to_of state event rank to blocks sum legal is = send_below state rank to blocks sum (subst (IsLegalSomewhere state) is legal)

pub peer_of : (state : State) (event : Event) (rank peer : ℕ) → IsLegalSomewhere state event → event ≡ Recv rank peer → peer < state.ranks
peer_of state event rank peer legal is = receive_below state rank peer (subst (IsLegalSomewhere state) is legal)
