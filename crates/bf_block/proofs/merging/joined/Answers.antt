use Rattle.std.proofs.Common.{◌+◌, ◌/◌, ◌∙◌, sym, subst, ap, arith}
use Rattle.bf_block.specs.Eighth.{means_in, octants_joined}
use Rattle.bf_block.proofs.JoinedLemmas.{AreJoined, joined_none, joined_more, joined_all, part_side, part_means}
use Rattle.bf_block.proofs.merging.joined.Goals as goal

pub load_into-requires-clause-fits : goal.load_into-requires-clause-fits
load_into-requires-clause-fits c =
    part_side c.args.parts.now c.args.side c.loop-octant.octant c.index-parts-octant.result _ c.requires.sides (omega arith) c.index-parts-octant.is
    ∙ sym (ap (λ s. s / 2) c.loop-octant.invariant.side)

pub loop-octant-init : goal.loop-octant-init
loop-octant-init c = record {
  side = c.in_ok-cells.ensures.side;
  joined = subst (AreJoined (means_in c.args.parts.now) 0) (sym c.in_ok-cells.ensures.cells) (joined_none (means_in c.args.parts.now) c.args.side);
}

pub loop-octant-preserved : goal.loop-octant-preserved
loop-octant-preserved c =
    let side = c.loop-octant.invariant.side in
    record {
      side = c.load_into.ensures.side ∙ side;
      joined = subst (AreJoined (means_in c.args.parts.now) (c.loop-octant.octant + 1)) (sym c.load_into.ensures.cells)
          (joined_more (means_in c.args.parts.now) c.loop-octant.octant c.loop-octant.cells c.index-parts-octant.result.means (omega (arith, side, c.requires.even))
          (omega (arith, side, c.requires.wide)) (omega arith)
          (part_side c.args.parts.now c.args.side c.loop-octant.octant c.index-parts-octant.result _ c.requires.sides (omega arith) c.index-parts-octant.is
          ∙ sym (ap (λ s. s / 2) side))
          (part_means c.args.parts.now c.loop-octant.octant c.index-parts-octant.result _ (omega arith) c.index-parts-octant.is) c.loop-octant.invariant.joined);
    }

pub returns : goal.returns
returns c =
    let side = c.loop-octant.invariant.side in
    joined_all (means_in c.args.parts.now) c.loop-octant.octant c.loop-octant.cells (omega (arith, side, c.requires.even)) (omega (arith, side, c.requires.wide)) (omega arith)
    c.loop-octant.invariant.joined
    ∙ ap (λ s. octants_joined s (means_in c.args.parts.now)) side
