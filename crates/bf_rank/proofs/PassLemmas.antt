-- Rounds without peers are passed as the lockstep passes them.
use Rattle.std.proofs.Common.{◌≡◌, ◌≢◌, ℕ, suc, ◌+◌, ◌-◌, ◌<◌, ◌≤◌, List, [], ◌∷◌, length, arith, refl, sym, subst, ◌∙◌, ap}
use Rattle.std.specs.Prelude.{Some, None, Result, Ok, Err, IfOk, OnErr, slice_get, if◌then◌else◌}
use Rattle.std.proofs.lemmas.Bool.{lt-ltb, le-ltb}
use Rattle.std.proofs.lemmas.Option.{slice_get_within}
use Rattle.bf_program.specs.declared.epoch.Epoch.{Epoch}
use Rattle.bf_program.specs.Meanings.{Meanings}
use Rattle.bf_program.specs.Laws.{KeepsGood, KeepsPeers}
use Rattle.bf_program.specs.Points.{IsFirst, IsReceiving, IsFinishing}
use Rattle.bf_core.specs.declared.place.Place.{Place}
use Rattle.bf_core.specs.declared.place.Place.TheVariants.{Rounds, Past}
use Rattle.bf_world.specs.Course.{local_at, peers_at, place_with, place_from, after_receive}
use Rattle.bf_rank.specs.declared.stand.Stand.{Stand}
use Rattle.bf_rank.specs.declared.stand.Stand.TheVariants as stands
use Rattle.bf_rank.specs.Ranks.{Sight, IsLocalAt}
use Rattle.bf_rank.specs.Steps.{Begins, HasPassed, Follows, EndsRound, TakesInRound, TakesNext, ComesTo}
use Rattle.bf_rank.proofs.TurnLemmas.{MayPass, may_pass, MayTake, may_take}

none_left : (xs : List ℕ) → length xs ≤ 0 → xs ≡ []
none_left [] few = refl
none_left (x ∷ xs) few = absurd (omega arith)

some_left : (xs : List ℕ) → 0 < length xs → xs ≢ []
some_left xs some none = let e : length xs ≡ length {A = ℕ} [] = ap length none in omega (arith, e)

place_stays : (round : ℕ) (peers : List ℕ) (later : Place) → 0 < length peers → place_with round peers later ≡ Rounds round 0 0 peers
place_stays round [] later some = absurd (omega arith)
place_stays round (x ∷ xs) later some = refl

module _ {S L M T R : Type 0} (m : Meanings S L M T R) (good : S → Epoch → ℕ → List L → Type 0) (setup : S) (goods : KeepsGood m good setup) (peers_kept : KeepsPeers m good setup)
    (seen : Sight L) (epoch : Epoch) (rank round : ℕ) (local : L) (begins : Begins m good setup seen epoch rank round local) where
  pub within_seen : round < m.rounds setup epoch → round < m.rounds setup seen.epoch
  within_seen within = let e : m.rounds setup epoch ≡ m.rounds setup seen.epoch = ap (m.rounds setup) begins.same in omega (arith, within, e)

  passing : round < m.rounds setup epoch → MayPass m good setup goods peers_kept seen begins.is_good rank round local
  passing within = may_pass m good setup goods peers_kept seen begins.is_good rank round local (within_seen within) begins.its

  pub asks_peers : round < m.rounds setup epoch → IsFirst m good setup epoch round local
  asks_peers within =
      let P : Epoch → Type 0 = λ e. IsFirst m good setup e round local in
      subst P (sym begins.same) (passing within).point

  seen_peers : (peers : List ℕ) → peers ≡ m.peers setup local epoch round → peers ≡ m.peers setup local seen.epoch round
  seen_peers peers are = are ∙ ap (λ e. m.peers setup local e round) begins.same

  pub may_finish : (peers : List ℕ) → round < m.rounds setup epoch → peers ≡ m.peers setup local epoch round → length peers ≤ 0 → IsFinishing m good setup epoch round local
  may_finish peers within are few =
      let P : Epoch → Type 0 = λ e. IsFinishing m good setup e round local in
      subst P (sym begins.same) ((passing within).finish (sym (seen_peers peers are) ∙ none_left peers few))

  step_place : round < m.rounds setup seen.epoch → place_from m setup seen.epoch seen.start rank (m.rounds setup seen.epoch - round) round
      ≡ place_with round (peers_at m setup seen.epoch seen.start rank round)
      (place_from m setup seen.epoch seen.start rank (m.rounds setup seen.epoch - (round + 1)) (round + 1))
  unfolding place_from
  step_place within =
      let e : m.rounds setup seen.epoch - round ≡ suc (m.rounds setup seen.epoch - (round + 1)) = omega (arith, within) in
      ap (λ n. place_from m setup seen.epoch seen.start rank n round) e

  pub has_peers : (peers : List ℕ) → round < m.rounds setup epoch → peers ≡ m.peers setup local epoch round → 0 < length peers
      → Follows m good setup seen epoch rank round local (Some peers)
  has_peers peers within are some = record {
    at_is = sym (step_place (within_seen within)
        ∙ ap (λ ps. place_with round ps (place_from m setup seen.epoch seen.start rank (m.rounds setup seen.epoch - (round + 1)) (round + 1)))
        ((passing within).peers_are ∙ sym (seen_peers peers are))
        ∙ place_stays round peers _ some);
    here = let P : List ℕ → Type 0 = λ ps. IsLocalAt m good setup seen rank (Rounds round 0 0 ps) local in
        subst P (sym (seen_peers peers are)) ((passing within).stays (λ none. some_left peers some (seen_peers peers are ∙ none)));
  }

  pub has_none : (peers : List ℕ) (after : L) → round < m.rounds setup epoch → peers ≡ m.peers setup local epoch round → length peers ≤ 0
      → after ≡ m.finish setup local epoch round → Follows m good setup seen epoch rank round after None
  has_none peers after within are few finished =
      let none : m.peers setup local seen.epoch round ≡ [] = sym (seen_peers peers are) ∙ none_left peers few in (
        record {
          same = begins.same;
          is_good = begins.is_good;
          within = let w : round < m.rounds setup seen.epoch = within_seen within in omega (arith, w);
          its = (passing within).after none ∙ ap Some (sym (finished ∙ ap (λ e. m.finish setup local e round) begins.same));
        },
        step_place (within_seen within)
            ∙ ap (λ ps. place_with round ps (place_from m setup seen.epoch seen.start rank (m.rounds setup seen.epoch - (round + 1)) (round + 1)))
            ((passing within).peers_are ∙ none),
      )

module _ {S L M T R : Type 0} (m : Meanings S L M T R) (good : S → Epoch → ℕ → List L → Type 0) (setup : S) (seen : Sight L) (epoch : Epoch) (rank from : ℕ) where
  -- rounds without peers are passed from one round to another
  pub record GoesOn (round : ℕ) (local : L) : Type 0 where
    pub begins : Begins m good setup seen epoch rank round local
    pub same_place : place_from m setup seen.epoch seen.start rank (m.rounds setup seen.epoch - from) from
        ≡ place_from m setup seen.epoch seen.start rank (m.rounds setup seen.epoch - round) round

  pub goes_past : (round : ℕ) (local : L) → GoesOn round local → m.rounds setup epoch ≤ round → HasPassed m good setup seen rank from Past local
  unfolding place_from
  goes_past round local goes all =
      let e : m.rounds setup epoch ≡ m.rounds setup seen.epoch = ap (m.rounds setup) goes.begins.same in
      let w : round ≤ m.rounds setup seen.epoch = goes.begins.within in
      let last : m.rounds setup seen.epoch - round ≡ 0 = omega (arith, all, e) in
      let same : round ≡ m.rounds setup seen.epoch = omega (arith, all, e, w) in
      record {
        at_is = sym (goes.same_place ∙ ap (λ n. place_from m setup seen.epoch seen.start rank n round) last);
        here = record {
          first = local;
          its = let P : ℕ → Type 0 = λ n. local_at m setup seen.epoch seen.start rank n ≡ Some local in subst P same goes.begins.its;
          here = refl;
        };
      }

module _ {S L M T R : Type 0} (m : Meanings S L M T R) (good : S → Epoch → ℕ → List L → Type 0) (setup : S) (seen : Sight L) (epoch : Epoch) (rank round : ℕ) (local : L)
    (ends : EndsRound m good setup seen epoch rank round local) where
  pub end_finish : IsFinishing m good setup epoch round local
  end_finish = let P : Epoch → Type 0 = λ e. IsFinishing m good setup e round local in subst P (sym ends.same) ends.point

module _ {S L M T R : Type 0} (m : Meanings S L M T R) (good : S → Epoch → ℕ → List L → Type 0) (setup : S) (goods : KeepsGood m good setup) (peers_kept : KeepsPeers m good setup)
    (seen : Sight L) (epoch : Epoch) (rank round sent received : ℕ) (peers : List ℕ) (peer : ℕ) (msg : M) (local : L)
    (takes : TakesInRound m good setup seen epoch rank round sent received peers peer msg local) where
  taking : MayTake m good setup goods peers_kept seen takes.is_good rank round sent received peers peer msg local
  taking = may_take m good setup goods peers_kept seen takes.is_good rank round sent received peers peer msg local
      (record {
        within = takes.within;
        peers_are = takes.peers_are;
        sends = let e : sent ≡ length peers = takes.all_sent in omega (arith, e);
        receives = slice_get_within peers received peer takes.next;
        in_turn = λ less. let e : sent ≡ length peers = takes.all_sent in absurd (omega (arith, e, less));
      })
      takes.here
      (ap (λ b. if b then None else slice_get peers received) (le-ltb sent (length peers) (let e : sent ≡ length peers = takes.all_sent in omega (arith, e))) ∙ takes.next)
      takes.its

  pub take_more : received < length peers
  take_more = slice_get_within peers received peer takes.next

  pub may_receive : IsReceiving m good setup epoch round peer msg local
  may_receive = let P : Epoch → Type 0 = λ e. IsReceiving m good setup e round peer msg local in subst P (sym takes.same) taking.point

  taken_seen : (after : L) → after ≡ m.take setup local epoch round peer msg → after ≡ m.take setup local seen.epoch round peer msg
  taken_seen after is = is ∙ ap (λ e. m.take setup local e round peer msg) takes.same

  pub take_stays : (after : L) → after ≡ m.take setup local epoch round peer msg → received + 1 < length peers
      → ComesTo m good setup seen rank (after_receive m setup seen.epoch seen.start rank (Rounds round sent received peers)) after (stands.Placed (Rounds round sent (received + 1) peers))
  take_stays after is more = (
    ap (λ b. if b then Rounds round sent (received + 1) peers else place_from m setup seen.epoch seen.start rank (m.rounds setup seen.epoch - (round + 1)) (round + 1))
        (lt-ltb (received + 1) (length peers) more),
    let P : L → Type 0 = IsLocalAt m good setup seen rank (Rounds round sent (received + 1) peers) in
        subst P (sym (taken_seen after is)) (taking.next more),
  )

  pub take_ends : (after : L) → after ≡ m.take setup local epoch round peer msg → length peers ≤ received + 1 → EndsRound m good setup seen epoch rank round after
  take_ends after is last = record {
    same = takes.same;
    is_good = takes.is_good;
    within = takes.within;
    point = let P : L → Type 0 = IsFinishing m good setup seen.epoch round in subst P (sym (taken_seen after is)) (taking.finish last);
    after = taking.after last ∙ ap (λ l. Some (m.finish setup l seen.epoch round)) (sym (taken_seen after is));
  }

  pub take_passes : (next : Place) (after : L) → length peers ≤ received + 1 → HasPassed m good setup seen rank (round + 1) next after
      → ComesTo m good setup seen rank (after_receive m setup seen.epoch seen.start rank (Rounds round sent received peers)) after (stands.Placed next)
  take_passes next after last passed = (
    ap (λ b. if b then Rounds round sent (received + 1) peers else place_from m setup seen.epoch seen.start rank (m.rounds setup seen.epoch - (round + 1)) (round + 1))
        (le-ltb (received + 1) (length peers) last) ∙ sym passed.at_is,
    passed.here,
  )

pub where_ok : {X E : Type 0} (P Q : X → Type 0) (r : Result X E) → ((x : X) → P x → Q x) → IfOk r P → IfOk r Q
where_ok P Q (Ok x) more holds = more x holds
where_ok P Q (Err e) more holds = tt

module _ {S L M T R : Type 0} (m : Meanings S L M T R) (good : S → Epoch → ℕ → List L → Type 0) (setup : S)
    (seen : Sight L) (epoch : Epoch) (rank : ℕ) (at : Place) (round sent received : ℕ) (peers : List ℕ) (peer : ℕ) (msg : M) (local : L)
    (is : at ≡ Rounds round sent received peers) where
  pub in_round : TakesNext m good setup seen epoch rank at peer msg local → TakesInRound m good setup seen epoch rank round sent received peers peer msg local
  in_round takes = let P : Place → Type 0 = λ p. TakesNext m good setup seen epoch rank p peer msg local in subst P is takes

  pub comes_from : (after : L) (stand : Stand)
      → ComesTo m good setup seen rank (after_receive m setup seen.epoch seen.start rank (Rounds round sent received peers)) after stand
      → ComesTo m good setup seen rank (after_receive m setup seen.epoch seen.start rank at) after stand
  comes_from after stand comes =
      let P : Place → Type 0 = λ p. ComesTo m good setup seen rank (after_receive m setup seen.epoch seen.start rank p) after stand in
      subst P (sym is) comes

pub comes_at : {S L M T R E : Type 0} (m : Meanings S L M T R) (good : S → Epoch → ℕ → List L → Type 0) (setup : S) (seen : Sight L) (rank : ℕ) (to : Place) (local : L)
    (r : Result Place E) (stand : Stand) → IfOk r (λ at. ComesTo m good setup seen rank to local (stands.Placed at)) → IfOk r (λ at. stand ≡ stands.Placed at)
    → OnErr r (stand ≡ stands.Failed) → ComesTo m good setup seen rank to local stand
comes_at m good setup seen rank to local (Ok at) stand comes is _ = subst (ComesTo m good setup seen rank to local) (sym is) comes
comes_at m good setup seen rank to local (Err e) stand _ _ is = subst (ComesTo m good setup seen rank to local) (sym is) tt
