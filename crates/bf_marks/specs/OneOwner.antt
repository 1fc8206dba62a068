-- All rounds, and one rank that owns all leaves, so that it hears of none.
use Rattle.std.specs.Prelude.{ℕ, zero, suc, List, map}
use Rattle.bf_id.specs.declared.shape.Shape.{Shape}
use Rattle.bf_id.specs.Id.{BlockId}
use Rattle.bf_case.specs.Wishes.{Wishes}
use Rattle.bf_links.specs.Links.{links_of}
use Rattle.bf_links.specs.declared.link.Link.{Link}
use Rattle.bf_marks.specs.Marks.{MarksValue, first_marks}
use Rattle.bf_marks.specs.Rounds.{forced_marks, may_marks, merging_marks}
use Rattle.bf_marks.specs.Wishes.{wish_of}

-- the links of each leaf of a map
abbrev pub links_of_all : Shape → (owner : BlockId → ℕ) → List BlockId → List (List Link)
links_of_all shape owner ids = map (links_of shape ids owner) ids

-- the marks before the rounds, by what all leaves wish
abbrev pub marks_wished : List BlockId → Wishes → MarksValue
marks_wished ids w = first_marks ids (map (wish_of w) ids)

-- the marks after so many force rounds
unfoldable pub after_force_rounds : (links : List (List Link)) → (rounds : ℕ) → MarksValue → MarksValue
after_force_rounds links zero m = m
after_force_rounds links (suc before) m = forced_marks links (after_force_rounds links before m)

-- the marks after the two rounds of each level, from one down to level 1
unfoldable pub after_levels : (links : List (List Link)) → (level : ℕ) → MarksValue → MarksValue
after_levels links zero m = m
after_levels links (suc before) m = after_levels links before (merging_marks (suc before) (may_marks (suc before) links m))

-- the marks after all rounds of a case of so many levels
abbrev pub after_all_rounds : (links : List (List Link)) → (levels : ℕ) → MarksValue → MarksValue
after_all_rounds links levels m = after_levels links levels (after_force_rounds links levels m)
