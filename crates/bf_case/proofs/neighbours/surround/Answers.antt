use Rattle.std.proofs.Common.{◌≡◌, ◌∙◌, arith, refl}
use Rattle.bf_face.proofs.FaceLemmas.{of_no_face}
use Rattle.bf_case.proofs.RootsAround.{IsWallFrom, all_walls_laid, one_wall_more}
use Rattle.bf_case.proofs.neighbours.surround.Goals as goal

pub loop-face-init : goal.loop-face-init
loop-face-init g c =
    record { side = refl; laid = of_no_face (IsWallFrom c.args.shape (g.L.RootCells.grid_of c.args.leaves.now) c.args.root c.args.shell.now) }

pub loop-face-preserved : goal.loop-face-preserved
loop-face-preserved g c = record {
  side = c.lay_wall.ensures.side ∙ c.loop-face.invariant.side;
  laid = one_wall_more c.args.shape (g.L.RootCells.grid_of c.args.leaves.now) c.args.root c.loop-face.face-index c.loop-face.shell _ c.across.result c.loop-face-test.true
      c.loop-face.invariant.laid c.across.ensures c.lay_wall.ensures.wall;
}

pub returns-clause-walls : goal.returns-clause-walls
returns-clause-walls g c =
    let all : c.loop-face.face-index ≡ 6 = omega arith in
    all_walls_laid c.args.shape c.args.shell.now.side (g.L.RootCells.grid_of c.args.leaves.now) c.args.root c.loop-face.face-index c.loop-face.shell
    c.loop-face.invariant.side all c.loop-face.invariant.laid
