use Rattle.bf_program.specs.Restores.{heir_of}
use Rattle.bf_links.specs.Links.{remapped}
use Rattle.bf_links.proofs.SearchLemmas.{all_mapped}
use Rattle.bf_links.proofs.links.remap_all.Goals as goal

pub returns : goal.returns
returns c =
    all_mapped c.args.links.now c.loop-link.link-items (remapped (heir_of c.args.homes c.args.live c.args.shift)) c.loop-link.link-index c.loop-link.invariant.long c.loop-link-test.false c.loop-link.invariant.done
