use Rattle.std.proofs.Common.{◌∙◌}
use Rattle.bf_plain.proofs.StepLemmas.{leaf_stepped, read_in_domain, site_of}
use Rattle.bf_plain.proofs.step.step_leaf.Goals as goal

pub cube-cube-requires-clause-inside : goal.cube-cube-requires-clause-inside
cube-cube-requires-clause-inside c =
    let m = c.args.survey in
    read_in_domain m.case.now m.leaves.now m.atlas.now c.args.own c.index-survey-own.result c.requires.charted c.requires.own_in

pub surround-requires-clause-site : goal.surround-requires-clause-site
surround-requires-clause-site c =
    let m = c.args.survey in
    site_of m.case.now m.leaves.now m.atlas.now c.args.own c.index-survey-own.result c.cube-cube.result c.requires.charted c.requires.own_in c.cube-cube.ensures

pub returns-clause-cells : goal.returns-clause-cells
returns-clause-cells c =
    let m = c.args.survey in
    leaf_stepped m.case.now m.leaves.now m.atlas.now c.args.own c.index-survey-own.result c.cube-cube.result _ _ c.requires.charted c.requires.own_in
    c.index-survey-own.is c.cube-cube.ensures (c.surround.ensures.side ∙ c.requires.side) c.surround.ensures.samples c.kernel.ensures.cells
