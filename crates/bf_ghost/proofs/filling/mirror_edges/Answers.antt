use Rattle.std.proofs.Common.{◌≡◌, ◌∙◌, ◌+◌, true, false, refl, sym, ap, subst, arith, get_or}
use Rattle.bf_face.proofs.FaceLemmas.{of_all_faces, of_no_face}
use Rattle.bf_face.specs.Face.{all_faces}
use Rattle.bf_face.specs.declared.face.Face.TheVariants.{XLow}
use Rattle.bf_id.specs.Id.{InShape, box_of}
use Rattle.bf_id.specs.Neighbours.{IsAtEdge}
use Rattle.bf_id.specs.Shape.{IsShape}
use Rattle.bf_cells.specs.Shell.{Walls}
use Rattle.bf_case.specs.Beside.{HoldsBeside}
use Rattle.bf_case.proofs.FaceLemmas.{leaf_is}
use Rattle.bf_block.specs.Block.{map_at}
use Rattle.bf_ghost.proofs.FillLemmas.{EdgesHold, at_hand, edge_at, in_shape, inner_more, mirrored_more}
use Rattle.bf_ghost.proofs.filling.mirror_edges.Goals.{then-is_at_edge, else-is_at_edge}
use Rattle.bf_ghost.proofs.filling.mirror_edges.Goals as goal

pub cube-cube-requires : goal.cube-cube-requires
cube-cube-requires c =
    let b = c.args.block.now in
    let models = c.cells-model.ensures.model in
    record {
      domain = subst IsShape (sym c.shape-shape.ensures.value) (at_hand b models).domain;
      inside = subst (λ s. InShape s c.id.result) (sym c.shape-shape.ensures.value) (subst (InShape b.case.roots) (sym c.id.ensures) (in_shape b models));
    }

pub loop-face-init : goal.loop-face-init
loop-face-init c =
    let b = c.args.block.now in
    record {
      side = refl;
      edges = of_no_face (λ face. IsAtEdge b.case.roots (box_of b.case.roots b.id) face → HoldsBeside b.case.roots (map_at b.case b.point) b.id b.cells c.args.shell.now face);
    }

pub loop-face-preserved : goal.loop-face-preserved
loop-face-preserved c =
    let b = c.args.block.now in
    let at = at_hand b c.cells-model.ensures.model in
    let leaves = map_at b.case b.point in
    let own = leaf_is b.case.roots b.case.side leaves b.id b.cells at.domain at.map at.has in
    let low = own.low in
    let fits = own.fits in
    let k = c.loop-face.face-index in
    let face = get_or all_faces k XLow in
    let boxed : c.cube-cube.result ≡ box_of c.shape-shape.result b.id = c.cube-cube.ensures ∙ ap (box_of c.shape-shape.result) c.id.ensures in
    elim c.if-is_at_edge.branch [
      | then-is_at_edge w ↦
          let edge = edge_at c.shape-shape.result b.case.roots c.cube-cube.result b.id face c.shape-shape.ensures.value boxed (c.is_at_edge.ensures.0 w.if-is_at_edge.true) in
          record {
            side = ap (λ (s : Walls). s.side) w.shell-is ∙ w.mirror.ensures.side ∙ c.loop-face.invariant.side;
            edges = mirrored_more b.case.roots leaves b.id b.cells c.loop-face.shell _ k c.loop-face-test.true (omega arith) own.ends.edge
                (c.loop-face.invariant.side ∙ c.requires.side ∙ sym fits) edge (w.shell-is ∙ w.mirror.ensures.wall) c.loop-face.invariant.edges;
          }
      | else-is_at_edge w ↦
          let inner : IsAtEdge b.case.roots (box_of b.case.roots b.id) face → ⊥ = λ edge.
          let there = edge_at b.case.roots c.shape-shape.result (box_of b.case.roots b.id) b.id face (sym c.shape-shape.ensures.value) refl edge in
          let e : false ≡ true = sym w.if-is_at_edge.false ∙ c.is_at_edge.ensures.1 (subst (λ d. IsAtEdge c.shape-shape.result d face) (sym boxed) there) in cc in
          record {
            side = ap (λ (s : Walls). s.side) w.shell-is ∙ c.loop-face.invariant.side;
            edges = subst (λ w. EdgesHold b.case.roots leaves b.id b.cells w (k + 1)) (sym w.shell-is)
                (inner_more b.case.roots leaves b.id b.cells c.loop-face.shell k c.loop-face-test.true inner c.loop-face.invariant.edges);
          }
    ]

pub returns-clause-edges : goal.returns-clause-edges
returns-clause-edges c =
    let b = c.args.block.now in
    let all : c.loop-face.face-index ≡ 6 = omega arith in
    of_all_faces (λ face. IsAtEdge b.case.roots (box_of b.case.roots b.id) face → HoldsBeside b.case.roots (map_at b.case b.point) b.id b.cells c.loop-face.shell face)
    c.loop-face.face-index all c.loop-face.invariant.edges
