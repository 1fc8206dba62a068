-- Which ranks begin with a block.
use Rattle.std.specs.Prelude.{ℕ, ◌==◌, Bool}
use Rattle.std.specs.List.{list_any, range_with_len}
use Rattle.bf_id.specs.Shape.{root_count}
use Rattle.bf_case.specs.declared.case.Case.{Case}
use Rattle.bf_case.specs.Case.{first_rank_of}

-- whether a root begins at a rank
unfoldable pub starts : Case → (rank : ℕ) → Bool
starts c rank = list_any (λ root. first_rank_of c root == rank) (range_with_len 0 (root_count c.roots))
