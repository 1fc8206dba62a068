-- What the rounds of an epoch do.
use Rattle.std.specs.Prelude.{[], ◌∷◌}
use Rattle.bf_stages.specs.Plans.{Plan}
use Rattle.bf_forest.specs.declared.stage.Stage.{Stage}
use Rattle.bf_forest.specs.declared.stage.Stage.TheVariants.{Step, Snapshot, Over}

-- a round for each step of time, and the snapshot
abbrev pub forest_plan : Plan Stage
forest_plan = record { in_step = λ time. Step time ∷ []; snapshot = Snapshot; over = Over }
