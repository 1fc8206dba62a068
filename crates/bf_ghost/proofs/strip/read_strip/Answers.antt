use Rattle.bf_ghost.proofs.StripLemmas.{told_by_coarser, told_by_finer, told_by_same}
use Rattle.bf_ghost.proofs.strip.read_strip.Goals as goal

pub returns-in-Less : goal.returns-in-Less
returns-in-Less c =
    let a = c.args in
    let halves = c.halves_along-half_a in
    told_by_coarser a.cells.now a.source a.target a.face c.opposite-own_face.result halves.result.0 halves.result.1 _ c.in-Less.ensures
    c.opposite-own_face.ensures halves.ensures.first halves.ensures.second c.read_quarter.ensures

pub returns-in-Equal : goal.returns-in-Equal
returns-in-Equal c =
    let a = c.args in
    told_by_same a.cells.now a.source a.target a.face c.opposite-own_face.result _ c.in-Equal.ensures c.opposite-own_face.ensures c.read_face.ensures

pub returns-in-Greater : goal.returns-in-Greater
returns-in-Greater c =
    let a = c.args in
    told_by_finer a.cells.now a.source a.target a.face c.opposite-own_face.result _ c.in-Greater.ensures c.opposite-own_face.ensures c.read_means.ensures
