use Rattle.std.proofs.Common.{inl}
use Rattle.bf_block.proofs.Walls.{walls_hold}
use Rattle.bf_block.proofs.laws.the_walls_around_a_root_hold_samples.Goals as goal

pub returns : goal.returns
returns c = λ case time root grid runs none below known. walls_hold case time root grid runs.valid (inl none) below known
