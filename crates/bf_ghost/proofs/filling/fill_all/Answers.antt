use Rattle.std.proofs.Common.{◌∙◌, ◌<◌, refl, sym, subst, arith, length}
use Rattle.bf_case.proofs.FaceLemmas.{leaf_is}
use Rattle.bf_block.specs.Block.{map_at}
use Rattle.bf_ghost.specs.Filling.{IsStripFor}
use Rattle.bf_ghost.proofs.FillLemmas.{at_hand, edges_stay, no_parts, one_part_more}
use Rattle.bf_ghost.proofs.filling.fill_all.Goals as goal

pub loop-strip-init : goal.loop-strip-init
loop-strip-init c =
    let b = c.args.block.now in
    record {
      side = refl;
      edges = λ hold. hold;
      parts = no_parts b.case.roots (map_at b.case b.point) b.id b.cells c.args.shell.now c.args.strips.now;
    }

pub fill-requires-clause-strip : goal.fill-requires-clause-strip
fill-requires-clause-strip c =
    let b = c.args.block.now in
    subst (IsStripFor b.case.roots (map_at b.case b.point) b.id) (sym c.strip-item.is) (c.requires.strips c.loop-strip.strip-index c.strip-item.result c.loop-strip-test.true)

pub loop-strip-preserved : goal.loop-strip-preserved
loop-strip-preserved c =
    let b = c.args.block.now in
    let at = at_hand b c.cells-model.ensures.model in
    let leaves = map_at b.case b.point in
    let own = leaf_is b.case.roots b.case.side leaves b.id b.cells at.domain at.map at.has in
    let strip = c.strip-item.result in
    let k = c.loop-strip.strip-index in
    let is = c.strip-item.is in
    let before = c.loop-strip.invariant in
    let within : k < length c.args.strips.now = c.loop-strip-test.true in
    let meant : IsStripFor b.case.roots leaves b.id strip = subst (IsStripFor b.case.roots leaves b.id) (sym is) (c.requires.strips k strip within) in
    record {
      side = c.fill.ensures.side ∙ before.side;
      edges = λ hold. edges_stay b.case.roots b.case.side leaves b.id b.cells c.loop-strip.shell _ strip at.domain at.map own.fits meant c.fill.ensures.rest (before.edges hold);
      parts = one_part_more b.case.roots b.case.side leaves b.id b.cells c.loop-strip.shell _ c.args.strips.now strip k own.fits within is c.fill.ensures.part c.fill.ensures.rest before.parts;
    }

pub returns-clause-parts : goal.returns-clause-parts
returns-clause-parts c =
    let b = c.args.block.now in
    let least = c.loop-strip-test.false in
    λ k d within. c.loop-strip.invariant.parts k d (omega arith)
