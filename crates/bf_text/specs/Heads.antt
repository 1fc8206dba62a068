-- The numbers of a head as far as they are bounded.
use Rattle.std.specs.Prelude.{◌≤◌}
use Rattle.bf_text.specs.declared.head.Head.{Head}

-- what products are made of is in its range, or hasn't come
pub record IsSmall (head : Head) : Type 0 where
  pub few_x : head.roots.nx ≤ 16
  pub few_y : head.roots.ny ≤ 16
  pub few_z : head.roots.nz ≤ 16
  pub narrow : head.side ≤ 16
  pub few_ranks : head.ranks ≤ 16
