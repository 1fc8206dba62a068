-- The state that a core holds.
use Rattle.bf_core.specs.declared.core_state.CoreState.TheInside.{Inside}
use Rattle.bf_core.specs.States.{State}

abbrev pub state_of : Inside → State
state_of core = record {
  ranks = core.ranks;
  standings = core.roll;
  queues = core.queues.items;
  epoch = core.epoch;
  stored = core.stored;
  shift = core.shift;
  steps = core.steps;
  interval = core.interval;
  outcome = core.outcome;
}
