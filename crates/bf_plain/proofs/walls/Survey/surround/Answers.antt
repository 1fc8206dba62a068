use Rattle.std.proofs.Common.{◌≡◌, ◌∙◌, refl, arith}
use Rattle.bf_face.proofs.FaceLemmas.{of_all_faces, of_no_face}
use Rattle.bf_case.specs.Beside.{HoldsBeside}
use Rattle.bf_plain.proofs.SiteLemmas.{one_face_more}
use Rattle.bf_plain.proofs.walls.Survey.surround.Goals as goal

pub loop-face-init : goal.loop-face-init
loop-face-init c =
    let m = c.args.self in
    let s = c.args.site.now in
    record { side = refl; held = of_no_face (HoldsBeside m.case.now.roots m.leaves.now s.id s.cells.now c.args.shell.now) }

pub lay_face-requires-clause-side : goal.lay_face-requires-clause-side
lay_face-requires-clause-side c = c.loop-face.invariant.side ∙ c.requires.side

pub loop-face-preserved : goal.loop-face-preserved
loop-face-preserved c =
    let m = c.args.self in
    let s = c.args.site.now in
    record {
      side = c.lay_face.ensures.side ∙ c.loop-face.invariant.side;
      held = one_face_more m.case.now.roots m.leaves.now s.id s.cells.now c.loop-face.shell _ c.loop-face.face-index c.loop-face-test.true c.loop-face.invariant.held
          c.lay_face.ensures.face c.lay_face.ensures.others c.lay_face.ensures.side;
    }

pub returns-clause-samples : goal.returns-clause-samples
returns-clause-samples c =
    let m = c.args.self in
    let s = c.args.site.now in
    let all : c.loop-face.face-index ≡ 6 = omega arith in
    of_all_faces (HoldsBeside m.case.now.roots m.leaves.now s.id s.cells.now c.loop-face.shell) c.loop-face.face-index all c.loop-face.invariant.held
