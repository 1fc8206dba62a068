-- What a run holds from step to step.
use Rattle.std.specs.Prelude.{◌≡◌, ◌*◌, length}
use Rattle.bf_case.specs.declared.case.Case.{Case}
use Rattle.bf_plain.specs.declared.run.Run.{Run}
use Rattle.bf_plain.specs.Step.{cube_of}
use Rattle.bf_plain.specs.Survey.{IsCharted}

-- the leaves are a map of the case with its atlas, and the working space has their sizes
pub record IsReady (c : Case) (run : Run) : Type 0 where
  pub charted : IsCharted c run.leaves.items run.atlas
  pub shell : run.shell.side ≡ c.side
  pub scratch : run.scratch.side ≡ c.side
  pub room : length run.fresh.items ≡ cube_of c.side * length run.leaves.items
