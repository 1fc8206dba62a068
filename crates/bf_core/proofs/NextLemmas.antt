-- What no event changes.
use Rattle.std.proofs.Common.{◌≡◌, ℕ, Bool, true, false, refl}
use Rattle.std.specs.Prelude.{if◌then◌else◌, ◌==◌}
use Rattle.bf_core.specs.declared.decision.Decision.{Decision}
use Rattle.bf_core.specs.declared.decision.Decision.TheVariants.{Lose, WantMemory, Commit, Restore}
use Rattle.bf_core.specs.declared.event.Event.{Event}
use Rattle.bf_core.specs.declared.event.Event.TheVariants.{Send, Recv, Arrive, Leave, Die}
use Rattle.bf_core.specs.declared.outcome.Outcome.TheVariants as outcomes
use Rattle.bf_core.specs.declared.standing.Stage.{Stage}
use Rattle.bf_core.specs.declared.standing.Stage.TheVariants.{Dead}
use Rattle.bf_core.specs.States.{State}
use Rattle.bf_core.specs.Next.{decided, decision, settled, dissolved, ended, committed, is_ripe, with_stage, next}

-- a run's size and settings
pub record HasSettingsOf (state other : State) : Type 0 where
  pub ranks : other.ranks ≡ state.ranks
  pub shift : other.shift ≡ state.shift
  pub steps : other.steps ≡ state.steps
  pub interval : other.interval ≡ state.interval

either : (state : State) (b : Bool) (x y : State) → HasSettingsOf state x → HasSettingsOf state y → HasSettingsOf state (if b then x else y)
either state true x y first second = first
either state false x y first second = second

decided_settings : (state : State) (how : Decision) → HasSettingsOf state (decided state how)
unfolding decided dissolved
decided_settings state (Lose home buddy) = record { ranks = refl; shift = refl; steps = refl; interval = refl }
decided_settings state WantMemory = record { ranks = refl; shift = refl; steps = refl; interval = refl }
decided_settings state Commit =
    either state (state.epoch.target == state.steps) (ended state outcomes.Finished) (committed state)
    (record { ranks = refl; shift = refl; steps = refl; interval = refl })
    (record { ranks = refl; shift = refl; steps = refl; interval = refl })
decided_settings state Restore = record { ranks = refl; shift = refl; steps = refl; interval = refl }

settled_settings : (state : State) → HasSettingsOf state (settled state)
unfolding settled
settled_settings state =
    either state (is_ripe state) (decided state (decision state)) state (decided_settings state (decision state))
    (record { ranks = refl; shift = refl; steps = refl; interval = refl })

after_stage : (state : State) (rank : ℕ) (stage : Stage) → HasSettingsOf state (settled (with_stage state rank stage))
after_stage state rank stage = let same = settled_settings (with_stage state rank stage) in
    record { ranks = same.ranks; shift = same.shift; steps = same.steps; interval = same.interval }

-- no event changes a run's size or settings
pub next_settings : (state : State) (event : Event) (filled : Bool) → HasSettingsOf state (next state event filled)
next_settings state (Send rank to blocks sum) filled = record { ranks = refl; shift = refl; steps = refl; interval = refl }
next_settings state (Recv rank peer) filled = record { ranks = refl; shift = refl; steps = refl; interval = refl }
next_settings state (Arrive rank how) filled = after_stage state rank _
next_settings state (Leave rank) filled = record { ranks = refl; shift = refl; steps = refl; interval = refl }
next_settings state (Die rank) filled = after_stage state rank Dead
