use Rattle.bf_block.specs.Setup.{case_of}
use Rattle.bf_block.proofs.EighthLemmas.{eighth_are, eighth_view}
use Rattle.bf_block.proofs.eighth.Eighth.of_leaf.Goals as goal

pub invariant_of-result : goal.invariant_of-result
invariant_of-result c =
    eighth_are (case_of c.args.setup) c.args.point c.args.id c.args.cells.now c.in_ok-means.means.items c.requires.model c.requires.merges c.in_ok-means.ensures

pub returns : goal.returns
returns c = eighth_view (case_of c.args.setup) c.args.point c.args.id c.args.cells.now c.in_ok-means.means.items c.requires.model c.in_ok-means.ensures
