use Rattle.bf_block.specs.Block.{map_at}
use Rattle.bf_ghost.proofs.FillLemmas.{all_hold, at_hand}
use Rattle.bf_ghost.proofs.filling.surround.Goals as goal

pub returns-clause-samples : goal.returns-clause-samples
returns-clause-samples c =
    let b = c.args.block.now in
    let at = at_hand b c.cells-model.ensures.model in
    all_hold b.case.roots b.case.side (map_at b.case b.point) b.id b.cells _ c.args.strips.now at.domain at.map at.balanced at.has c.requires.strips
    (c.fill_all.ensures.edges c.mirror_edges.ensures.edges) c.fill_all.ensures.parts
