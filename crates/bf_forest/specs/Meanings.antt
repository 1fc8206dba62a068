-- What the calls of the forest's rank program mean.
use Rattle.std.specs.Prelude.{ℕ, ◌*◌, nat_lt, Bool, ◌&&◌, List, [], map, filter}
use Rattle.std.specs.List.{range_with_len}
use Rattle.bf_program.specs.Meanings.{Meanings, Regions}
use Rattle.bf_id.specs.declared.shape.Shape.{Shape}
use Rattle.bf_id.specs.Cube.{Cube, Voxel, holds}
use Rattle.bf_id.specs.Shape.{root_edge}
use Rattle.bf_id.specs.Id.{box_of}
use Rattle.bf_case.specs.declared.case.Case.{Case}
use Rattle.bf_forest.specs.declared.setup.Setup.{Setup}
use Rattle.bf_forest.specs.Setup.{case_of}
use Rattle.bf_parts.specs.declared.side.Side.{Side}
use Rattle.bf_parts.specs.Leaves.{part_of, side_at}
use Rattle.bf_parts.specs.Sides.{bare, has_items, saved_of, is_given}
use Rattle.bf_parts.specs.Spreads.{restored_view}
use Rattle.bf_parts.specs.Views.{stored_of}
use Rattle.bf_snap.specs.Buffers.{swapped}
use Rattle.bf_stages.specs.Plans.{rounds_of, stage_of}
use Rattle.bf_msg.specs.declared.linked_block.LinkedBlock.{LinkedBlock}
use Rattle.bf_msg.specs.declared.message.Message.{Message}
use Rattle.bf_msg.specs.LinkedBlocks.{linked_kind}
use Rattle.bf_msg.specs.Messages.{measured}
use Rattle.bf_forest.specs.declared.local.ForestLocal.{ForestLocal}
use Rattle.bf_forest.specs.Locals.{view_in, local_with}
use Rattle.bf_forest.specs.ModelBlocks.{blocks_at, first_home}
use Rattle.bf_forest.specs.Rounds.{play_of}
use Rattle.bf_forest.specs.Stages.{forest_plan}
use Rattle.bf_forest.specs.Starts.{starts}

-- a rank's local at the opening: the roots that begin at it, filled and linked, and the opening's snapshot
unfoldable pub opened : Case → (rank : ℕ) → ForestLocal
opened c rank = record {
  rank = rank;
  blocks = part_of (blocks_at c 0) (first_home c) rank;
  heard = [];
  buffers = record { active = side_at 0 (range_with_len 0 c.ranks) c.shift (blocks_at c 0) (first_home c) rank; spare = bare };
}

abbrev pub forest : Meanings Setup ForestLocal Message (List LinkedBlock) (Side LinkedBlock)
forest = record {
  ranks = λ setup. (case_of setup).ranks;
  steps = λ setup. (case_of setup).steps;
  shift = λ setup. (case_of setup).shift;
  interval = λ setup. (case_of setup).snapshot;
  deaths = λ setup. (case_of setup).dies;
  rounds = λ setup epoch. rounds_of forest_plan epoch;
  peers = λ setup local epoch round. (play_of (case_of setup) epoch (stage_of forest_plan epoch round)).peers epoch.members local;
  out = λ setup local epoch round to. (play_of (case_of setup) epoch (stage_of forest_plan epoch round)).out local to;
  take = λ setup local epoch round peer msg. (play_of (case_of setup) epoch (stage_of forest_plan epoch round)).hear local peer msg;
  finish = λ setup local epoch round. (play_of (case_of setup) epoch (stage_of forest_plan epoch round)).finish local;
  filled = λ local. has_items local.buffers.spare.own;
  parcel = λ local. (record local { blocks = [] }, local.blocks);
  keep = λ local. record local { buffers = swapped local.buffers };
  restore = λ setup local rank epoch. local_with (restored_view linked_kind (case_of setup).shift local.buffers.active rank epoch.members) [];
  measure = measured;
  opening = λ setup. map (opened (case_of setup)) (range_with_len 0 (case_of setup).ranks);
  laid = λ setup. filter (starts (case_of setup)) (range_with_len 0 (case_of setup).ranks);
  stored = stored_of view_in;
  reads = λ local. local.buffers.active;
  given = λ setup side rank epoch. filter (is_given side rank epoch.members) side.homes;
}

-- the box of a block
abbrev pub box_in : LinkedBlock → Cube
box_in b = box_of b.block.case.roots b.block.id

-- whether a unit lies in the domain
abbrev pub in_domain : Shape → Voxel → Bool
in_domain shape unit = nat_lt unit.x (root_edge * shape.nx) && (nat_lt unit.y (root_edge * shape.ny) && nat_lt unit.z (root_edge * shape.nz))

-- the pieces are the boxes of the blocks that ranks own; copies in snapshots are none, and strips are no pieces
abbrev pub pieces : Regions Setup ForestLocal Message (List LinkedBlock) (Side LinkedBlock) Cube Voxel
pieces = record {
  of_local = λ local. map box_in local.blocks;
  of_message = λ msg. [];
  of_part = λ part. map box_in part;
  of_saved = λ side rank home. map box_in (saved_of side rank home);
  holds = holds;
  is_in_domain = λ setup unit. in_domain (case_of setup).roots unit;
}
