use Rattle.std.proofs.Common.{◌≡◌, ◌+◌, ◌<◌, arith, ◌∙◌, sym}
use Rattle.bf_id.specs.Id.{level_of}
use Rattle.bf_plain.proofs.SiteLemmas.{cells_fit, coarser_holds, keeps, met, placed, same_holds, unit_in_domain}
use Rattle.bf_plain.proofs.walls.Survey.lay_across.Goals as goal

pub across-unit-requires : goal.across-unit-requires
across-unit-requires c =
    let m = c.args.self in
    let s = c.args.site.now in
    let site = c.requires.site in
    let some = (placed m.case.now m.leaves.now m.atlas.now s.id s.cells.now s.cube site).some in
    record { domain = site.charted.valid.sized.shape; a_in = some; b_in = some }

pub leaf_with-requires-clause-inside : goal.leaf_with-requires-clause-inside
leaf_with-requires-clause-inside c =
    let m = c.args.self in
    let s = c.args.site.now in
    let site = c.requires.site in
    let some = (placed m.case.now m.leaves.now m.atlas.now s.id s.cells.now s.cube site).some in
    unit_in_domain m.case.now m.leaves.now m.atlas.now s.id s.cells.now s.cube c.args.face 0 0 c.across-unit.result site c.requires.inner some some c.across-unit.ensures

pub lay_finer-requires-clause-finer : goal.lay_finer-requires-clause-finer
lay_finer-requires-clause-finer c =
    let m = c.args.self in
    let s = c.args.site.now in
    let site = c.requires.site in
    let found = c.leaf_with.result.now in
    let crossing = met m.case.now m.leaves.now m.atlas.now s.id s.cells.now s.cube c.args.face c.across-unit.result found site c.requires.inner
    c.across-unit.ensures c.leaf_with.ensures.found c.leaf_with.ensures.holds in
    let no_finer = crossing.no_finer in
    let own : c.level-2.result ≡ level_of s.id = c.level-2.ensures.level in
    let its : c.level.result ≡ level_of found.0 = c.level.ensures.level in
    let above : c.level-2.result < c.level.result = c.if-level.true in
    record { other = found; lies = crossing.lies; finer = omega arith }

pub lay_coarser-requires : goal.lay_coarser-requires
lay_coarser-requires c =
    let m = c.args.self in
    let s = c.args.site.now in
    let site = c.requires.site in
    let found = c.leaf_with.result.now in
    cells_fit m.case.now m.leaves.now found.0 found.1 site.charted.map.map c.leaf_with.ensures.found ∙ sym c.requires.side

pub set_wall-requires : goal.set_wall-requires
set_wall-requires c =
    let m = c.args.self in
    let site = c.requires.site in
    let found = c.leaf_with.result.now in
    record { sides = cells_fit m.case.now m.leaves.now found.0 found.1 site.charted.map.map c.leaf_with.ensures.found ∙ sym c.requires.side }

pub returns-then-level-2-clause-face : goal.returns-then-level-2-clause-face
returns-then-level-2-clause-face c =
    let m = c.args.self in
    let s = c.args.site.now in
    let site = c.requires.site in
    let found = c.leaf_with.result.now in
    let crossing = met m.case.now m.leaves.now m.atlas.now s.id s.cells.now s.cube c.args.face c.across-unit.result found site c.requires.inner
    c.across-unit.ensures c.leaf_with.ensures.found c.leaf_with.ensures.holds in
    let no_coarser = crossing.no_coarser in
    let own : c.level-else-level-2.result ≡ level_of s.id = c.level-else-level-2.ensures.level in
    let its : c.level-else-level.result ≡ level_of found.0 = c.level-else-level.ensures.level in
    let below : c.level-else-level.result < c.level-else-level-2.result = c.if-level-2.true in
    let level : level_of found.0 + 1 ≡ level_of s.id = omega arith in
    coarser_holds m.case.now m.leaves.now m.atlas.now s.id found.0 s.cells.now found.1 s.cube c.args.face c.args.shell.now _ site crossing.lies level c.requires.side c.lay_coarser.ensures.wall

pub returns-then-level-2-clause-others : goal.returns-then-level-2-clause-others
returns-then-level-2-clause-others c = keeps c.args.shell.now _ c.args.face _ c.lay_coarser.ensures.wall

pub returns-else-level-2-clause-face : goal.returns-else-level-2-clause-face
returns-else-level-2-clause-face c =
    let m = c.args.self in
    let s = c.args.site.now in
    let site = c.requires.site in
    let found = c.leaf_with.result.now in
    let crossing = met m.case.now m.leaves.now m.atlas.now s.id s.cells.now s.cube c.args.face c.across-unit.result found site c.requires.inner
    c.across-unit.ensures c.leaf_with.ensures.found c.leaf_with.ensures.holds in
    let level : level_of found.0 ≡ level_of s.id =
    omega (arith, c.level.ensures.level, c.level-2.ensures.level, c.level-else-level.ensures.level, c.level-else-level-2.ensures.level, c.if-level.false, c.if-level-2.false) in
    let is = rw c.opposite.ensures at c.set_wall.ensures.values in
    same_holds m.case.now m.leaves.now m.atlas.now s.id found.0 s.cells.now found.1 s.cube c.args.face c.args.shell.now _ site crossing.lies level c.requires.side is

pub returns-else-level-2-clause-others : goal.returns-else-level-2-clause-others
returns-else-level-2-clause-others c = keeps c.args.shell.now _ c.args.face _ c.set_wall.ensures.values
