-- The world at its opening.
use Rattle.std.proofs.Common.{◌≡◌, ℕ, ◌*◌, ◌≤◌, List, [], length, arith, refl, sym, subst, ◌∙◌, ap}
use Rattle.bf_program.specs.declared.epoch.Epoch.{Epoch}
use Rattle.bf_program.specs.Meanings.{Meanings}
use Rattle.bf_program.specs.Laws.{KeepsLimits, KeepsGood, KeepsStored}
use Rattle.bf_core.specs.States.{State, opening}
use Rattle.bf_world.specs.Journals.{Noted}
use Rattle.bf_world.specs.Messages.{AreQueuesOf}
use Rattle.bf_world.specs.Queues.{Waiting, no_messages}
use Rattle.bf_world.specs.Runs.{opening_run, run_after, is_journal}
use Rattle.bf_world.specs.Worlds.{IsWorld, restores_in}
use Rattle.bf_world.proofs.LawfulLemmas.{IsLawful, opening_lawful}
use Rattle.bf_world.proofs.NeedLemmas.{need_bounded}
use Rattle.bf_world.proofs.WaitingLemmas.{opening_queues}

module _ {S L M T R : Type 0} (m : Meanings S L M T R) (setup : S) where
  pub opening_core : (core : State) (ranks : ℕ) (filled : List ℕ) (dies : List (ℕ × ℕ)) (shift steps interval : ℕ) → ranks ≡ m.ranks setup → filled ≡ m.laid setup
      → dies ≡ m.deaths setup → shift ≡ m.shift setup → steps ≡ m.steps setup → interval ≡ m.interval setup
      → core ≡ opening ranks filled dies shift steps interval → core ≡ (opening_run m setup).core
  unfolding opening_run
  opening_core core ranks filled dies shift steps interval ranks_are filled_is dies_are shift_is steps_are interval_is is =
      is ∙ rw (ranks_are, filled_is, dies_are, shift_is, steps_are, interval_is) refl

module _ {S L M T R : Type 0} (m : Meanings S L M T R) (good : S → Epoch → ℕ → List L → Type 0) (setup : S)
    (limits : KeepsLimits m setup) (goods : KeepsGood m good setup) (stores : KeepsStored m good setup) where
  pub opening_world : (core : State) (waiting : Waiting M) (noted : Noted) (ranks : ℕ) → core ≡ (opening_run m setup).core → waiting ≡ no_messages ranks → ranks ≡ m.ranks setup
      → noted.events ≡ [] → 3 * ranks ≤ noted.room → (parcels : List (ℕ × T)) → parcels ≡ [] → IsWorld m setup core waiting noted parcels 0
  unfolding opening_run run_after is_journal restores_in
  opening_world core waiting noted ranks core_is waiting_is ranks_are events_are room parcels none =
      let P : List _ → Type 0 = λ events. IsWorld m setup core waiting (record { events = events; room = noted.room }) parcels 0 in
      let lawful : IsLawful m good setup goods stores (opening_run m setup) = opening_lawful m good setup goods stores limits in
      let size : length core.standings ≡ m.ranks setup = ap (λ state. length state.standings) core_is ∙ lawful.sound.size ∙ lawful.steady.ranks in
      subst P (sym events_are) (record {
        legal = refl;
        core_is = core_is;
        queues = subst (AreQueuesOf m setup (opening_run m setup)) (sym (waiting_is ∙ ap no_messages ranks_are)) (opening_queues m setup);
        parcels_are = none;
        room = omega (arith, need_bounded core, size, ranks_are, room);
        restores_are = refl;
      })
