-- How one epoch follows another.
use Rattle.std.specs.Prelude.{ℕ, ◌+◌, false, true, List, min, if◌then◌else◌}
use Rattle.std.specs.List.{range_with_len}
use Rattle.bf_program.specs.declared.epoch.Epoch.{Epoch}

-- the time to which an epoch with steps runs that begins at a time: a snapshot's interval on, or the end of the run
abbrev pub target_of : (steps interval time : ℕ) → ℕ
target_of steps interval time = min (time + interval) steps

-- the time to which an epoch runs: one that a restore began has no steps, it only makes the copies again
abbrev pub target_in : (steps interval : ℕ) → Epoch → ℕ
target_in steps interval epoch = if epoch.restored then epoch.time else target_of steps interval epoch.time

-- the number of the next epoch; a count stands still at the end of its type
abbrev pub next_number : ℕ → ℕ
next_number number = min (number + 1) 4294967295

-- the first epoch: every rank is a member and a home of the opening snapshot
abbrev pub first_epoch : (ranks steps interval : ℕ) → Epoch
first_epoch ranks steps interval = record {
  number = 0;
  time = 0;
  target = target_of steps interval 0;
  members = range_with_len 0 ranks;
  homes = range_with_len 0 ranks;
  restored = false;
}

-- the epoch after a commit: its members are the homes of the new snapshot
abbrev pub epoch_after_commit : (steps interval : ℕ) → Epoch → Epoch
epoch_after_commit steps interval epoch = record {
  number = next_number epoch.number;
  time = epoch.target;
  target = target_of steps interval epoch.target;
  members = epoch.members;
  homes = epoch.members;
  restored = false;
}

-- the epoch after a restore: the live make the copies of the snapshot that was agreed before again, and agree on it anew
abbrev pub epoch_after_restore : (live : List ℕ) → Epoch → Epoch
epoch_after_restore live epoch = record {
  number = next_number epoch.number;
  time = epoch.time;
  target = epoch.time;
  members = live;
  homes = epoch.homes;
  restored = true;
}
