-- A chain of three leaves, down from level 2 to a root, where each level's leaves have a rank of their own.
use Rattle.std.specs.Prelude.{ℕ, List}
use Rattle.bf_id.specs.Id.{BlockId, level_of}
use Rattle.bf_case.specs.Map.{ids_of}
use Rattle.bf_case.specs.Rows.{chain_from_level_2, low_limit, two_roots}
use Rattle.bf_case.specs.Wishes.{Wishes, wishes_of}
use Rattle.bf_marks.specs.Marks.{MarksValue}
use Rattle.bf_mark_rounds.specs.Shares.{forced_after, share, told_after}

abbrev pub chain_ids : List BlockId
chain_ids = ids_of chain_from_level_2

-- with three levels below the roots
abbrev pub chain_wishes : Wishes
chain_wishes = wishes_of (low_limit 3) chain_from_level_2

-- a rank's marks after so many force rounds
abbrev pub chain_marks : (rounds rank : ℕ) → MarksValue
chain_marks rounds rank =
    share two_roots.roots chain_ids chain_wishes level_of (told_after two_roots.roots chain_ids chain_wishes rounds) (forced_after two_roots.roots chain_ids chain_wishes rounds) rank
