-- What a leaf wishes, as one of three.
use Rattle.std.specs.Prelude.{Bool, true, false, if◌then◌else◌}
use Rattle.bf_id.specs.Id.{BlockId}
use Rattle.bf_case.specs.Wishes.{Wishes}
use Rattle.bf_marks.specs.declared.wishes.Wish.{Wish}
use Rattle.bf_marks.specs.declared.wishes.Wish.TheVariants.{Refine, Coarsen, Stay}

-- what a leaf wishes: in a case that can run none wishes two things
abbrev pub wish_of : Wishes → BlockId → Wish
wish_of w i = if w.finer i then Refine else (if w.coarser i then Coarsen else Stay)

abbrev pub is_refine : Wish → Bool
is_refine Refine = true
is_refine Coarsen = false
is_refine Stay = false

abbrev pub is_coarsen : Wish → Bool
is_coarsen Refine = false
is_coarsen Coarsen = true
is_coarsen Stay = false
