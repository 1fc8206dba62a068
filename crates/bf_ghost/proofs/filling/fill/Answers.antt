use Rattle.std.proofs.Common.{ap}
use Rattle.bf_ghost.specs.Strips.{StripValue}
use Rattle.bf_ghost.proofs.FillLemmas.{at_hand, part_holds, rest_stays, told_length}
use Rattle.bf_ghost.proofs.filling.fill.Goals as goal

pub lay-requires : goal.lay-requires
lay-requires c =
    let b = c.args.block.now in
    let at = at_hand b c.cells-model.ensures.model in
    told_length b.case.roots b.case.side _ b.id c.args.strip.now c.args.shell.now.side at.domain at.map c.requires.side c.requires.strip

pub returns-clause-part : goal.returns-clause-part
returns-clause-part c =
    let b = c.args.block.now in
    let at = at_hand b c.cells-model.ensures.model in
    part_holds b.case.roots b.case.side _ b.id b.cells c.args.shell.now _ c.args.strip.now at.domain at.map at.balanced at.has c.requires.side c.requires.strip c.lay.ensures.walls

pub returns-clause-rest : goal.returns-clause-rest
returns-clause-rest c =
    let b = c.args.block.now in
    rest_stays b.case.side b.id c.args.shell.now _ c.args.strip.now c.requires.side (ap (λ (s : StripValue). s.target) c.requires.strip.told) c.lay.ensures.walls
