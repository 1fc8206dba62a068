-- Marks: the own leaves of a rank, and the flags of them and of leaves that are linked with them.
use Rattle.std.specs.Prelude.{List, [], if◌then◌else◌}
use Rattle.bf_id.specs.Id.{BlockId}
use Rattle.bf_case.specs.declared.target.Target.{Target}
use Rattle.bf_case.specs.declared.target.Target.TheVariants.{Keep, Refine, Merge}
use Rattle.bf_marks.specs.Flags.{Flagged, chosen, heard_of, is_flagged, unflagged}
use Rattle.bf_marks.specs.Wishes.{is_coarsen, is_refine}
use Rattle.bf_marks.specs.declared.flag.Flag.{Flag}
use Rattle.bf_marks.specs.declared.flag.Flag.TheVariants.{Refined, May, Merges}
use Rattle.bf_marks.specs.declared.wishes.Wish.{Wish}

-- what contracts see of marks: the own leaves, those of them that wish to be coarsened, and who is refined, may merge and merges
pub record MarksValue : Type 0 where
  pub leaves : List BlockId
  pub coarser : List BlockId
  pub refined : Flagged
  pub may : Flagged
  pub merging : Flagged

-- the leaves that have a flag
abbrev pub flagged_in : Flag → MarksValue → Flagged
flagged_in Refined m = m.refined
flagged_in May m = m.may
flagged_in Merges m = m.merging

-- the marks where these own leaves have a flag, and no others
abbrev pub with_own : Flag → List BlockId → MarksValue → MarksValue
with_own Refined own m = record m { refined = record m.refined { own = own } }
with_own May own m = record m { may = record m.may { own = own } }
with_own Merges own m = record m { merging = record m.merging { own = own } }

-- the marks before the rounds: the leaves that wish it are refined
abbrev pub first_marks : (leaves : List BlockId) → (wishes : List Wish) → MarksValue
first_marks leaves wishes = record {
  leaves = leaves;
  coarser = chosen (λ i wish. is_coarsen wish) leaves wishes;
  refined = record { own = chosen (λ i wish. is_refine wish) leaves wishes; heard = [] };
  may = unflagged;
  merging = unflagged;
}

-- the marks after a flag was heard of a leaf
abbrev pub marks_heard : Flag → BlockId → MarksValue → MarksValue
marks_heard Refined i m = record m { refined = heard_of i m.refined }
marks_heard May i m = record m { may = heard_of i m.may }
marks_heard Merges i m = record m { merging = heard_of i m.merging }

-- what becomes of a leaf, by its marks
abbrev pub target_by : MarksValue → BlockId → Target
target_by m i = if is_flagged m.refined i then Refine else (if is_flagged m.merging i then Merge else Keep)
