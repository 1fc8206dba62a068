use Rattle.bf_ghost.specs.Strips.{StripValue}
use Rattle.bf_ghost.proofs.StripLemmas.{laid_by_coarser, laid_by_finer, laid_by_same}
use Rattle.bf_ghost.proofs.strip.lay_values.Goals as goal

pub returns-in-Less-clause-walls : goal.returns-in-Less-clause-walls
returns-in-Less-clause-walls c =
    let a = c.args in
    let strip : StripValue = record { source = a.source; target = a.target; face = a.face; values = a.values.now } in
    laid_by_coarser a.shell.now _ strip c.in-Less.ensures c.lay_doubled.ensures.values

pub returns-in-Equal-clause-walls : goal.returns-in-Equal-clause-walls
returns-in-Equal-clause-walls c =
    let a = c.args in
    let strip : StripValue = record { source = a.source; target = a.target; face = a.face; values = a.values.now } in
    laid_by_same a.shell.now _ strip c.in-Equal.ensures c.lay.ensures.values

pub returns-in-Greater-clause-walls : goal.returns-in-Greater-clause-walls
returns-in-Greater-clause-walls c =
    let a = c.args in
    let strip : StripValue = record { source = a.source; target = a.target; face = a.face; values = a.values.now } in
    let halves = c.halves_along-half_a in
    laid_by_finer a.shell.now _ strip halves.result.0 halves.result.1 c.in-Greater.ensures halves.ensures.first halves.ensures.second c.lay_quarter.ensures.values
