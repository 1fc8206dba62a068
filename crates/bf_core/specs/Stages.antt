-- Tests on a rank's stage.
use Rattle.std.specs.Prelude.{Bool, true, false, ◌||◌}
use Rattle.bf_core.specs.declared.event.How.{How}
use Rattle.bf_core.specs.declared.event.How.TheVariants.{Done, Broken, Memory}
use Rattle.bf_core.specs.declared.standing.Stage.{Stage}
use Rattle.bf_core.specs.declared.standing.Stage.TheVariants.{Running, Arrived, Leaving, Dead, Gone}

abbrev pub is_done : How → Bool
is_done Done = true
is_done Broken = false
is_done Memory = false

abbrev pub wants_memory : How → Bool
wants_memory Done = false
wants_memory Broken = false
wants_memory Memory = true

-- whether a rank does its rounds
abbrev pub is_running : Stage → Bool
is_running Running = true
is_running _ = false

-- whether a rank's epoch is decided and it has not left yet
abbrev pub is_leaving : Stage → Bool
is_leaving Leaving = true
is_leaving _ = false

-- whether a rank lives and has not arrived in the present epoch
abbrev pub is_awaited : Stage → Bool
is_awaited stage = is_running stage || is_leaving stage

-- whether a rank has arrived in an epoch that is not decided
abbrev pub is_arrived : Stage → Bool
is_arrived (Arrived how filled) = true
is_arrived _ = false

-- whether a rank has done all rounds and arrived
abbrev pub has_finished_rounds : Stage → Bool
has_finished_rounds (Arrived how filled) = is_done how
has_finished_rounds _ = false

-- whether a rank has arrived for want of memory
abbrev pub is_short : Stage → Bool
is_short (Arrived how filled) = wants_memory how
is_short _ = false

-- whether a rank's part of the new snapshot has a block
abbrev pub is_filled : Stage → Bool
is_filled (Arrived how filled) = filled
is_filled _ = false

-- whether a rank is a member that has died
abbrev pub is_dead : Stage → Bool
is_dead Dead = true
is_dead _ = false

-- whether a rank died in an earlier epoch
abbrev pub is_gone : Stage → Bool
is_gone Gone = true
is_gone _ = false

-- whether a rank lives and has not left an ended run
abbrev pub goes_on : Stage → Bool
goes_on Running = true
goes_on (Arrived how filled) = true
goes_on Leaving = true
goes_on _ = false

-- whether a rank lives
abbrev pub lives : Stage → Bool
lives Dead = false
lives Gone = false
lives _ = true

-- a stage once the epoch is decided: who has arrived must leave, and the dead are members no more
abbrev pub after_decision : Stage → Stage
after_decision (Arrived how filled) = Leaving
after_decision Dead = Gone
after_decision stage = stage
