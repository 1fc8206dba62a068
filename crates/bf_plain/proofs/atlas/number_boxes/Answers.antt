use Rattle.std.proofs.Common.{◌<◌, length, ap, sym, subst, ◌∙◌, arith}
use Rattle.std.proofs.lemmas.List.{length-map}
use Rattle.bf_id.specs.Cube.{in_boxes}
use Rattle.bf_id.specs.Id.{InShape, root_id}
use Rattle.bf_case.specs.Map.{Leaf, ids_of}
use Rattle.bf_plain.proofs.AtlasLemmas.{leaf_boxes, id_of_leaf, rooms, sides_few, Filled-more}
use Rattle.bf_plain.proofs.atlas.number_boxes.Goals as goal

pub cube-requires-clause-inside : goal.cube-requires-clause-inside
cube-requires-clause-inside c =
    let leaf = c.index-leaves-number in
    let k = c.loop-number.number in
    let below : k < length c.args.leaves.now = omega arith in
    let inside = c.requires.in_shape k (root_id 0) (omega (arith, length-map c.args.leaves.now (λ (l : Leaf). l.0), below)) in
    subst (InShape c.args.shape) (sym (id_of_leaf c.args.leaves.now k leaf.result below leaf.is)) inside

pub paint-requires : goal.paint-requires
paint-requires c =
    let below : c.loop-number.number < length c.args.leaves.now = omega arith in
    let b = leaf_boxes c.args.shape c.args.leaves.now c.args.level c.loop-number.number c.index-leaves-number.result c.in_boxes-extent.result
    c.requires.domain c.requires.shallow c.requires.ids c.requires.in_shape c.requires.coarse below c.index-leaves-number.is (c.in_boxes-extent.ensures ∙ ap (in_boxes c.args.level) c.cube.ensures) in
    record {
      wide = c.boxes_along.ensures.few;
      deep = c.boxes_along-2.ensures.few;
      along_x = omega (arith, b.lies.along_x);
      along_y = omega (arith, b.lies.along_y);
      along_z = omega (arith, b.lies.along_z, sides_few c.args.shape.nz c.args.level c.requires.domain.few_z c.requires.shallow);
      room = rw (c.boxes_along.ensures.exact, c.boxes_along-2.ensures.exact)
          (omega (arith, rooms c.args.shape c.args.level c.in_boxes-extent.result b.lies, c.requires.full));
    }

pub loop-number-preserved : goal.loop-number-preserved
loop-number-preserved c =
    let below : c.loop-number.number < length c.args.leaves.now = omega arith in
    let b = leaf_boxes c.args.shape c.args.leaves.now c.args.level c.loop-number.number c.index-leaves-number.result c.in_boxes-extent.result
    c.requires.domain c.requires.shallow c.requires.ids c.requires.in_shape c.requires.coarse below c.index-leaves-number.is (c.in_boxes-extent.ensures ∙ ap (in_boxes c.args.level) c.cube.ensures) in
    Filled-more c.args.shape (ids_of c.args.leaves.now) c.args.level c.loop-number.number c.in_boxes-extent.result c.loop-number.numbers c.paint.new.numbers
    c.requires.shallow b.below b.grid b.boxes
    (rw (c.boxes_along.ensures.exact, c.boxes_along-2.ensures.exact) at c.paint.ensures.painted)
    (rw (c.boxes_along.ensures.exact, c.boxes_along-2.ensures.exact) at c.paint.ensures.kept)
    c.loop-number.invariant
