use Rattle.std.proofs.Common.{◌≡◌, subst, arith}
use Rattle.bf_case.specs.Map.{Leaf, ids_of}
use Rattle.bf_plain.proofs.MarkLemmas.{leaf_in_shape, leaf_is_placed, Around, Around-next, marks_from_around}
use Rattle.std.proofs.lemmas.List.{length-map}
use Rattle.bf_plain.proofs.marks.mark_around.Goals as goal

pub cube-cube-requires-clause-inside : goal.cube-cube-requires-clause-inside
cube-cube-requires-clause-inside c =
    leaf_in_shape c.args.shape c.args.leaves.now c.args.atlas.now c.args.leaf c.index-leaves-leaf.result c.requires.surveyed c.requires.leaf_in c.index-leaves-leaf.is

pub beside-requires-clause-placed : goal.beside-requires-clause-placed
beside-requires-clause-placed c =
    leaf_is_placed c.args.shape c.args.leaves.now c.args.atlas.now c.args.leaf c.index-leaves-leaf.result c.cube-cube.result
    c.requires.surveyed c.requires.leaf_in c.index-leaves-leaf.is c.cube-cube.ensures

pub loop-step-preserved : goal.loop-step-preserved
loop-step-preserved c =
    Around-next c.args.shape c.args.leaves.now c.args.atlas.now c.args.finer c.args.leaf c.loop-step.step c.leaf_at-found.result c.index-leaves-leaf.result
    c.cube-cube.result c.beside.result c.is_finer.result c.args.marks.now c.loop-step.marks
    c.requires.surveyed c.requires.leaf_in c.index-leaves-leaf.is c.cube-cube.ensures c.beside.ensures.place c.beside.ensures.inside
    c.leaf_at-found.ensures c.is_finer.ensures c.requires.full c.loop-step.invariant

pub returns-clause-marks : goal.returns-clause-marks
returns-clause-marks c =
    let all : c.loop-step.step ≡ 27 = omega arith in
    let ids = ids_of c.args.leaves.now in
    λ p begun. marks_from_around c.args.shape ids c.args.atlas.now c.args.finer c.args.leaf c.args.marks.now c.loop-step.marks p
    c.requires.surveyed (omega (arith, length-map c.args.leaves.now (λ (l : Leaf). l.0)))
    (subst (λ n. Around c.args.shape ids c.args.atlas.now c.args.finer c.args.leaf c.args.marks.now n c.loop-step.marks) all c.loop-step.invariant) begun
