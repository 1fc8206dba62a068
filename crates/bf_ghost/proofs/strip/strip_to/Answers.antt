use Rattle.std.proofs.Common.{◌∙◌, Some, ap, sym, subst}
use Rattle.std.specs.Prelude.{option_map}
use Rattle.bf_id.specs.Face.{SharesFace}
use Rattle.bf_id.specs.Id.{box_of, InShape}
use Rattle.bf_id.specs.Shape.{IsShape}
use Rattle.bf_block.specs.Block.{leaf_of}
use Rattle.bf_ghost.specs.Strips.{StripValue, strip_of}
use Rattle.bf_ghost.proofs.FillLemmas.{at_hand, in_shape}
use Rattle.bf_ghost.proofs.SharingLemmas.{none_is_found}
use Rattle.bf_ghost.proofs.TellingLemmas.{between_shared}
use Rattle.bf_ghost.proofs.strip.strip_to.Goals as goal

pub face-requires : goal.face-requires
face-requires c =
    let b = c.args.block.now in
    let models = c.cells-cells.ensures.model in
    let roots = c.shape.ensures.value in
    record {
      domain = subst IsShape (sym roots) (at_hand b models).domain;
      inside = subst (λ s. InShape s c.args.target) (sym roots) c.requires.inside;
      other_inside = subst (λ s. InShape s c.id.result) (sym roots) (subst (InShape b.case.roots) (sym c.id.ensures) (in_shape b models));
    }

pub returns-in_ok-strip-in-Some : goal.returns-in_ok-strip-in-Some
returns-in_ok-strip-in-Some c =
    let b = c.args.block.now in
    let shape = b.case.roots in
    let target = c.args.target in
    let face = c.in-Some.face in
    let share : SharesFace shape face (box_of shape target) (box_of shape b.id) =
    subst (λ s. SharesFace s face (box_of s target) (box_of s b.id)) c.shape.ensures.value
    (subst (λ i. SharesFace c.shape.result face (box_of c.shape.result target) (box_of c.shape.result i)) c.id.ensures c.in-Some.ensures) in
    ap (λ (s : StripValue). Some s) c.in_ok-strip-in-Some.ensures
    ∙ ap (λ i. Some (strip_of (i, c.cells-cells.result.now) face target)) c.id-in-Some.ensures
    ∙ ap (λ h. Some (strip_of (b.id, h) face target)) c.cells-cells.ensures.cells
    ∙ sym (between_shared shape (leaf_of b) target face (at_hand b c.cells-cells.ensures.model).domain share)

pub returns-in-None : goal.returns-in-None
returns-in-None c =
    let b = c.args.block.now in
    let shape = b.case.roots in
    let target = c.args.target in
    sym (ap (option_map (λ face. strip_of (leaf_of b) face target)) (none_is_found shape (box_of shape target) (box_of shape b.id) (λ face share.
    c.in-None.ensures face (subst (λ s. SharesFace s face (box_of s target) (box_of s c.id.result)) (sym c.shape.ensures.value)
    (subst (λ i. SharesFace shape face (box_of shape target) (box_of shape i)) (sym c.id.ensures) share)))))
