use Rattle.std.proofs.Common.{◌≡◌, ◌*◌, ◌/◌, ◌%◌, ◌∙◌, refl, subst, arith}
use Rattle.bf_plain.proofs.SiteLemmas.{QuartersHold, all_quarters, inner_face, keeps, keeps_twice, lies_across, no_quarters, one_quarter_more, placed, quarter_in_domain}
use Rattle.bf_plain.proofs.walls.Survey.lay_finer.Goals as goal

pub loop-quarter-init : goal.loop-quarter-init
loop-quarter-init c = record {
  side = c.requires.side;
  held = no_quarters c.args.self.case.now c.args.self.leaves.now c.args.site.now.id c.args.site.now.cells.now c.args.face c.args.shell.now;
  others = λ other apart. refl;
}

pub across_quarter-unit-requires : goal.across_quarter-unit-requires
across_quarter-unit-requires c =
    let s = c.args.site.now in
    let site = c.requires.site in
    record {
      domain = site.charted.valid.sized.shape;
      some = (placed c.args.self.case.now c.args.self.leaves.now c.args.self.atlas.now s.id s.cells.now s.cube site).some;
      half_a = omega arith;
      half_b = omega arith;
    }

pub leaf_with-requires-clause-inside : goal.leaf_with-requires-clause-inside
leaf_with-requires-clause-inside c =
    let s = c.args.site.now in
    let site = c.requires.site in
    let m = c.args.self in
    quarter_in_domain m.case.now m.leaves.now m.atlas.now s.id s.cells.now s.cube c.args.face (c.loop-quarter.quarter % 2) (c.loop-quarter.quarter / 2) c.across_quarter-unit.result
    site (inner_face m.case.now m.leaves.now m.atlas.now s.id s.cells.now s.cube c.args.face site c.requires.finer) (omega arith) (omega arith) c.across_quarter-unit.ensures

pub loop-quarter-preserved : goal.loop-quarter-preserved
loop-quarter-preserved c =
    let s = c.args.site.now in
    let site = c.requires.site in
    let m = c.args.self in
    let quarter = c.loop-quarter.quarter in
    let found = c.leaf_with.result.now in
    let inner = inner_face m.case.now m.leaves.now m.atlas.now s.id s.cells.now s.cube c.args.face site c.requires.finer in
    let lies = lies_across m.case.now m.leaves.now m.atlas.now s.id s.cells.now s.cube c.args.face (quarter % 2 * (s.cube.edge / 2)) (quarter / 2 * (s.cube.edge / 2))
    c.across_quarter-unit.result found site inner c.across_quarter-unit.ensures c.leaf_with.ensures.found c.leaf_with.ensures.holds in
    let is = rw c.opposite.ensures at c.set_quarter_means.ensures.values in
    record {
      side = c.set_quarter_means.ensures.side ∙ c.loop-quarter.invariant.side;
      held = one_quarter_more m.case.now m.leaves.now m.atlas.now s.id found.0 s.cells.now found.1 s.cube c.args.face quarter c.loop-quarter.shell _ site c.requires.finer
          (omega arith) c.loop-quarter.invariant.side lies is c.loop-quarter.invariant.held;
      others = keeps_twice c.args.shell.now c.loop-quarter.shell c.set_quarter_means.new.self c.args.face c.loop-quarter.invariant.others (keeps c.loop-quarter.shell c.set_quarter_means.new.self c.args.face _ is);
    }

pub returns-clause-face : goal.returns-clause-face
returns-clause-face c =
    let s = c.args.site.now in
    let m = c.args.self in
    let all : c.loop-quarter.quarter ≡ 4 = omega arith in
    all_quarters m.case.now m.leaves.now m.atlas.now s.id s.cells.now s.cube c.args.face c.loop-quarter.shell c.requires.site
    (subst (QuartersHold m.case.now.roots m.leaves.now s.id s.cells.now c.loop-quarter.shell c.args.face) all c.loop-quarter.invariant.held)
