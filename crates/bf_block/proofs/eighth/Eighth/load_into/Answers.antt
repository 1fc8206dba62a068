use Rattle.std.proofs.Common.{◌∙◌, ap}
use Rattle.bf_cells.specs.Means.{with_octant}
use Rattle.bf_block.specs.Eighth.{EighthValue}
use Rattle.bf_block.specs.EighthFields.{eighth_in}
use Rattle.bf_block.proofs.EighthLemmas.{means_fit}
use Rattle.bf_block.proofs.eighth.Eighth.load_into.Goals as goal

pub load_octant-requires-clause-values : goal.load_octant-requires-clause-values
load_octant-requires-clause-values c =
    means_fit (eighth_in c.self.inside) c.args.self.now c.args.cells.now.side c.as_slice.result.now c.self.view_is c.self.invariant c.as_slice.ensures.value c.requires.fits

pub returns-clause-cells : goal.returns-clause-cells
returns-clause-cells c =
    c.load_octant.ensures.cells ∙ ap (with_octant c.args.cells.now c.args.octant) (c.as_slice.ensures.value ∙ ap (λ (e : EighthValue). e.means.values) c.self.view_is)
