use Rattle.std.proofs.Common.{◌≡◌, ◌∙◌, Option, Some, None, sym}
use Rattle.bf_block.specs.Block.{leaf_of}
use Rattle.bf_ghost.specs.Strips.{StripValue, strip_of}
use Rattle.bf_ghost.proofs.FillLemmas.{at_hand}
use Rattle.bf_ghost.proofs.TellingLemmas.{between_shared}
use Rattle.bf_ghost.proofs.strip.strip_for.Goals as goal

pub unreachable-requires : goal.unreachable-requires
unreachable-requires c =
    let b = c.args.block.now in
    let leaf = leaf_of b in
    let shared = c.requires.share in
    let nothing : Option StripValue = None in
    let wrong : nothing ≡ Some (strip_of leaf shared.0 c.args.target) =
    sym c.in-None.is ∙ c.in_ok-strip.ensures ∙ between_shared b.case.roots leaf c.args.target shared.0 (at_hand b c.cells-model.ensures.model).domain shared.1 in
    absurd cc
