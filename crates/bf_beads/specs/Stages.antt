-- What the rounds of an epoch do.
use Rattle.std.specs.Prelude.{Bool, true, false, [], ◌∷◌}
use Rattle.bf_stages.specs.Plans.{Plan}
use Rattle.bf_beads.specs.declared.stage.Stage.{Stage}
use Rattle.bf_beads.specs.declared.stage.Stage.TheVariants.{Tell, Grow, Move, Snapshot, Over}

-- three rounds for each step of time, and the snapshot
abbrev pub bead_plan : Plan Stage
bead_plan = record { in_step = λ time. Tell time ∷ Grow time ∷ Move time ∷ []; snapshot = Snapshot; over = Over }

-- whether the new snapshot is made before a stage
abbrev pub is_made : Stage → Bool
is_made (Tell time) = false
is_made (Grow time) = false
is_made (Move time) = false
is_made Snapshot = false
is_made Over = true
