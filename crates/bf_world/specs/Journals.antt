-- A journal, and how many more events it has memory for.
use Rattle.std.specs.Prelude.{ℕ, List}
use Rattle.bf_core.specs.declared.event.Event.{Event}

pub record Noted : Type 0 where
  pub events : List Event
  pub room : ℕ
