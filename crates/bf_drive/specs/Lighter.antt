-- How turns use up what is left of a run.
use Rattle.std.specs.Prelude.{◌<◌, ◌≤◌, List, length}
use Rattle.bf_program.specs.Meanings.{Meanings}
use Rattle.bf_core.specs.declared.event.Event.{Event}
use Rattle.bf_world.specs.Runs.{run_after}
use Rattle.bf_world.specs.Weights.{weight}

-- a journal is as long as another and leaves no more to be done, and less where it is longer
pub record IsLighter {S L M T R : Type 0} (m : Meanings S L M T R) (setup : S) (old new : List Event) : Type 0 where
  pub grows : length old ≤ length new
  pub no_more : weight m setup (run_after m setup new) ≤ weight m setup (run_after m setup old)
  pub less : length old < length new → weight m setup (run_after m setup new) < weight m setup (run_after m setup old)
