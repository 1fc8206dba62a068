use Rattle.bf_plain.proofs.SiteLemmas.{edge_holds, keeps}
use Rattle.bf_plain.proofs.walls.Survey.lay_face.Goals as goal

pub returns-then-is_at_edge-clause-face : goal.returns-then-is_at_edge-clause-face
returns-then-is_at_edge-clause-face c =
    let m = c.args.self in
    let s = c.args.site.now in
    let at = c.is_at_edge.ensures.0 c.if-is_at_edge.true in
    edge_holds m.case.now m.leaves.now m.atlas.now s.id s.cells.now s.cube c.args.face c.args.shell.now _ c.requires.site at c.requires.side c.set_wall.ensures.values

pub returns-then-is_at_edge-clause-others : goal.returns-then-is_at_edge-clause-others
returns-then-is_at_edge-clause-others c = keeps c.args.shell.now _ c.args.face _ c.set_wall.ensures.values
