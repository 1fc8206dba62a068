use Rattle.std.proofs.Common.{◌∙◌, sym, ap}
use Rattle.bf_plain.specs.Rebuild.{last_of}
use Rattle.bf_plain.proofs.RebuildSteps.{side_of_parent}
use Rattle.bf_plain.proofs.rebuild.merge_into.Goals as goal

pub write_mean-requires-clause-sides : goal.write_mean-requires-clause-sides
write_mean-requires-clause-sides c =
    ap (λ l. (last_of l).1.side) (c.as_mut_slice.ensures.value ∙ c.in_ok-add_parent.ensures)
    ∙ side_of_parent c.args.side c.args.id c.args.new.now.items c.requires.sides ∙ sym c.requires.fits
