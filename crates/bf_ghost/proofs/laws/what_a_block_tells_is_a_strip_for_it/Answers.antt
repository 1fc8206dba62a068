use Rattle.bf_case.proofs.LookupLemmas.{leaf_from_cells_at}
use Rattle.bf_block.specs.Block.{leaf_of, map_at}
use Rattle.bf_ghost.proofs.TellingLemmas.{between_is}
use Rattle.bf_ghost.proofs.laws.what_a_block_tells_is_a_strip_for_it.Goals as goal

pub returns : goal.returns
returns c b i strip models told =
    let between = between_is b.case.roots (leaf_of b) i strip told in
    record { leaf = leaf_of b; in_map = leaf_from_cells_at (map_at b.case b.point) b.id b.cells models.leaf; share = between.share; told = between.told }
