-- Whether another is a peer of a rank, as each asks of itself.
use Rattle.std.specs.Prelude.{ℕ, ◌==◌, Bool, false, ◌&&◌, ◌||◌, not, List}
use Rattle.bf_parts.specs.Sides.{gives}
use Rattle.bf_beads.specs.declared.local.BeadLocal.{BeadLocal}
use Rattle.bf_beads.specs.declared.stage.Stage.{Stage}
use Rattle.bf_beads.specs.declared.stage.Stage.TheVariants.{Tell, Grow, Move, Snapshot, Over}
use Rattle.bf_beads.specs.Rounds.{is_neighbor}

unfoldable pub is_peer : Stage → (members : List ℕ) → (shift : ℕ) → BeadLocal → (other : ℕ) → Bool
is_peer (Tell time) members shift local other = is_neighbor local.rank local.beads other
is_peer (Grow time) members shift local other = false
is_peer (Move time) members shift local other = not (other == local.rank)
is_peer Snapshot members shift local other = not (other == local.rank) && (gives members shift local.rank other || gives members shift other local.rank)
is_peer Over members shift local other = false
