-- Whether another is a peer of a rank, as each asks of itself.
use Rattle.std.specs.Prelude.{ℕ, ◌==◌, Bool, false, ◌&&◌, ◌||◌, not, List}
use Rattle.bf_parts.specs.Sides.{gives}
use Rattle.bf_forest.specs.declared.local.ForestLocal.{ForestLocal}
use Rattle.bf_forest.specs.declared.stage.Stage.{Stage}
use Rattle.bf_forest.specs.declared.stage.Stage.TheVariants.{Step, Snapshot, Over}
use Rattle.bf_forest.specs.Rounds.{is_neighbor}

unfoldable pub is_peer : Stage → (members : List ℕ) → (shift : ℕ) → ForestLocal → (other : ℕ) → Bool
is_peer (Step time) members shift local other = is_neighbor local.rank local.blocks other
is_peer Snapshot members shift local other = not (other == local.rank) && (gives members shift local.rank other || gives members shift other local.rank)
is_peer Over members shift local other = false
