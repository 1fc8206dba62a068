-- What the calls of the program mean.
use Rattle.std.specs.Prelude.{ℕ, ◌%◌, ◌^◌, ◌==◌, nat_lt, length, List, [], map, filter, take}
use Rattle.std.specs.List.{range_with_len}
use Rattle.bf_program.specs.Meanings.{Meanings, Regions}
use Rattle.bf_parts.specs.declared.side.Side.{Side}
use Rattle.bf_parts.specs.Leaves.{part_of, is_filled, side_at}
use Rattle.bf_parts.specs.Sides.{bare, has_items, is_given, saved_of}
use Rattle.bf_parts.specs.Spreads.{restored_view}
use Rattle.bf_parts.specs.Views.{stored_of}
use Rattle.bf_beads.specs.declared.bead.Bead.{Bead}
use Rattle.bf_beads.specs.declared.local.BeadLocal.{BeadLocal}
use Rattle.bf_beads.specs.declared.message.BeadMessage.{BeadMessage}
use Rattle.bf_beads.specs.declared.setup.BeadSetup.{BeadSetup}
use Rattle.bf_beads.specs.Locals.{moved_in, beads_in, view_in, local_with}
use Rattle.bf_beads.specs.Rounds.{play_of}
use Rattle.bf_beads.specs.Row.{beads_at, bead_kind, home_in, numbers_of, total}
use Rattle.bf_stages.specs.Plans.{rounds_of, stage_of}
use Rattle.bf_beads.specs.Stages.{bead_plan}

-- a rank's local at the opening
abbrev pub opened : (count ranks shift rank : ℕ) → BeadLocal
opened count ranks shift rank = record {
  rank = rank;
  beads = part_of (beads_at count 0) (home_in ranks) rank;
  heard = [];
  active = side_at 0 (range_with_len 0 ranks) shift (beads_at count 0) (home_in ranks) rank;
  spare = bare;
}

abbrev pub beads : Meanings BeadSetup BeadLocal BeadMessage (List Bead) (Side Bead)
beads = record {
  ranks = λ setup. setup.ranks;
  steps = λ setup. setup.steps;
  shift = λ setup. setup.shift;
  interval = λ setup. setup.interval;
  deaths = λ setup. take setup.dying setup.deaths;
  rounds = λ setup epoch. rounds_of bead_plan epoch;
  peers = λ setup local epoch round. (play_of setup.shift epoch (stage_of bead_plan epoch round)).peers epoch.members local;
  out = λ setup local epoch round to. (play_of setup.shift epoch (stage_of bead_plan epoch round)).out local to;
  take = λ setup local epoch round peer msg. (play_of setup.shift epoch (stage_of bead_plan epoch round)).hear local peer msg;
  finish = λ setup local epoch round. (play_of setup.shift epoch (stage_of bead_plan epoch round)).finish local;
  filled = λ local. has_items local.spare.own;
  parcel = λ local. (record local { beads = [] }, local.beads);
  keep = λ local. record local { active = local.spare; spare = bare };
  restore = λ setup local rank epoch. local_with (restored_view bead_kind setup.shift local.active rank epoch.members) [];
  measure = λ msg. record { blocks = length (beads_in msg) % 2 ^ 32; sum = total (beads_in msg) };
  opening = λ setup. map (opened setup.beads setup.ranks setup.shift) (range_with_len 0 setup.ranks);
  laid = λ setup. filter (is_filled (beads_at setup.beads 0) (home_in setup.ranks)) (range_with_len 0 setup.ranks);
  stored = stored_of view_in;
  reads = λ local. local.active;
  given = λ setup side rank epoch. filter (is_given side rank epoch.members) side.homes;
}

-- the pieces are beads, by their numbers; of a message those that move
abbrev pub pieces : Regions BeadSetup BeadLocal BeadMessage (List Bead) (Side Bead) ℕ ℕ
pieces = record {
  of_local = λ local. numbers_of local.beads;
  of_message = λ msg. numbers_of (moved_in msg);
  of_part = numbers_of;
  of_saved = λ side rank home. numbers_of (saved_of side rank home);
  holds = λ number unit. number == unit;
  is_in_domain = λ setup unit. nat_lt unit setup.beads;
}
