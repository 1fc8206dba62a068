-- How marks are stored.
use Rattle.std.specs.Prelude.{◌≡◌, length, AllPairs}
use Rattle.bf_id.specs.Walk.{IsBefore}
use Rattle.bf_marks.specs.FlagFields.{flagged_by, with_flag}
use Rattle.bf_marks.specs.Marks.{MarksValue}
use Rattle.bf_marks.specs.declared.known.Known.TheInside.{Inside}

-- the marks that the fields hold
abbrev pub marks_in : Inside → MarksValue
marks_in k = record {
  leaves = k.leaves.items;
  coarser = with_flag k.leaves.items k.coarser.items;
  refined = flagged_by k.leaves.items k.refined;
  may = flagged_by k.leaves.items k.may;
  merging = flagged_by k.leaves.items k.merging;
}

-- the own leaves rise, and beside each stands what it wishes and which flags it has
pub record IsAligned (k : Inside) : Type 0 where
  pub rising : AllPairs IsBefore k.leaves.items
  pub coarser : length k.coarser.items ≡ length k.leaves.items
  pub refined : length k.refined.own.items ≡ length k.leaves.items
  pub may : length k.may.own.items ≡ length k.leaves.items
  pub merging : length k.merging.own.items ≡ length k.leaves.items
