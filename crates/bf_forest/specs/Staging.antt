-- The rounds of the forest as stages: what each rank's local is at the beginning of each, by who owns which block and who has which at home, and how
-- each is played.
use Rattle.std.specs.Prelude.{◌≡◌, ℕ, ◌≤◌, Bool, true, false, None, List, []}
use Rattle.bf_program.specs.declared.epoch.Epoch.{Epoch}
use Rattle.bf_program.specs.Epochs.{target_in}
use Rattle.bf_id.specs.Id.{BlockId}
use Rattle.bf_case.specs.declared.case.Case.{Case}
use Rattle.bf_forest.specs.declared.setup.Setup.{Setup}
use Rattle.bf_forest.specs.Setup.{case_of}
use Rattle.bf_rounds.specs.Courses.{Course}
use Rattle.bf_rounds.specs.Gathering.{gathering}
use Rattle.bf_rounds.specs.Leading.{alone, lifted}
use Rattle.bf_parts.specs.Leaves.{Leaves, part_of, side_at}
use Rattle.bf_parts.specs.Sides.{bare}
use Rattle.bf_parts.specs.Spreads.{Trio, view_at}
use Rattle.bf_stages.specs.Moves.{Hand}
use Rattle.bf_stages.specs.Plans.{stage_of, stages_of}
use Rattle.bf_stages.specs.Snapshots.{sees_paired, snapshot_course}
use Rattle.bf_stages.specs.Stages.{World, Staging}
use Rattle.bf_block.specs.declared.point.Point.{Point}
use Rattle.bf_block.specs.Block.{before_regrid}
use Rattle.bf_ghost.specs.Strips.{StripValue}
use Rattle.bf_msg.specs.declared.linked_block.LinkedBlock.{LinkedBlock}
use Rattle.bf_msg.specs.declared.message.Message.{Message}
use Rattle.bf_msg.specs.declared.message.Message.TheVariants.{Step as StepMessage, Snapshot as SnapshotMessage}
use Rattle.bf_forest.specs.declared.local.ForestLocal.{ForestLocal}
use Rattle.bf_forest.specs.declared.stage.Stage.{Stage}
use Rattle.bf_forest.specs.declared.stage.Stage.TheVariants.{Step, Snapshot, Over}
use Rattle.bf_forest.specs.Locals.{view_in, local_with}
use Rattle.bf_forest.specs.ModelBlocks.{blocks_at, blocks_on, ready}
use Rattle.bf_forest.specs.Rounds.{step_play, play_of}
use Rattle.bf_forest.specs.Stages.{forest_plan}

-- whether the new snapshot is made
abbrev pub is_made : Stage → Bool
is_made (Step time) = false
is_made Snapshot = false
is_made Over = true

-- the point at which all blocks are at the beginning of a stage, and of a round
abbrev pub point_in : Case → Epoch → Stage → Point
point_in c epoch (Step time) = ready c time
point_in c epoch Snapshot = before_regrid epoch.target
point_in c epoch Over = before_regrid epoch.target

unfoldable pub point_at : Case → Epoch → (round : ℕ) → Point
point_at c epoch round = point_in c epoch (stage_of forest_plan epoch round)

-- the leaves at the beginning of a stage
abbrev pub leaves_in : Case → Epoch → Stage → Leaves BlockId LinkedBlock
leaves_in c epoch stage = blocks_on c (point_in c epoch stage)

abbrev pub trio_in : Case → Epoch → Stage → Trio BlockId LinkedBlock
trio_in c epoch stage = record { now = leaves_in c epoch stage; agreed = blocks_at c epoch.time; new = blocks_at c epoch.target }

-- a rank's blocks of a point, with what it has heard
abbrev pub hand_at : Case → (p : Point) → (owner : BlockId → ℕ) → (rank : ℕ) → (heard : List StripValue) → Hand (List StripValue) LinkedBlock
hand_at c p owner rank heard = record { rank = rank; known = heard; items = part_of (blocks_on c p) owner rank }

-- a hand in a local, before the new snapshot is made
abbrev pub local_of_hand : Case → Epoch → World BlockId → (rank : ℕ) → Hand (List StripValue) LinkedBlock → ForestLocal
local_of_hand c epoch world rank hand = record {
  rank = hand.rank;
  blocks = hand.items;
  heard = hand.known;
  buffers = record { active = side_at epoch.time epoch.homes c.shift (blocks_at c epoch.time) world.home rank; spare = bare };
}

-- the courses of the rounds
abbrev pub step_course : Case → Epoch → (time : ℕ) → (owner : BlockId → ℕ) → Course (Hand (List StripValue) LinkedBlock) (List StripValue)
step_course c epoch time owner = gathering step_play (λ peer msg. msg) (hand_at c (ready c time) owner) epoch.members (λ rank. hand_at c (ready c time) owner rank [])

abbrev pub course_in : Case → Epoch → Stage → World BlockId → Course ForestLocal Message
course_in c epoch (Step time) world = lifted (local_of_hand c epoch world) StepMessage (step_course c epoch time world.owner)
course_in c epoch Snapshot world =
    lifted (λ rank view. local_with view []) SnapshotMessage (snapshot_course (sees_paired c.shift) c.shift epoch (trio_in c epoch Snapshot) world.owner world.home)
course_in c epoch Over world = alone (SnapshotMessage None) (λ rank. local_with (view_at c.shift epoch true (trio_in c epoch Over) world.owner world.home rank) [])

-- the epochs that come up
pub record Runs (c : Case) (epoch : Epoch) : Type 0 where
  pub begins : epoch.time ≤ c.steps
  pub ends : epoch.target ≡ target_in c.steps c.snapshot epoch

abbrev pub forest_staging : Staging Setup BlockId LinkedBlock ForestLocal (List StripValue) Message Stage
forest_staging = record {
  look = view_in;
  put = local_with;
  at = λ setup. blocks_at (case_of setup);
  Runs = λ setup. Runs (case_of setup);
  Also = λ setup epoch stage owner. Unit {0};
  fresh = λ setup epoch rank. [];
  stages = λ setup. stages_of forest_plan;
  last = Over;
  made = is_made;
  play = λ setup. play_of (case_of setup);
  leaves = λ setup. leaves_in (case_of setup);
  work = λ setup epoch stage owner rank. [];
  moved = λ setup epoch stage owner. owner;
  course = λ setup. course_in (case_of setup);
}
