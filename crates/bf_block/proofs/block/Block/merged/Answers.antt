use Rattle.std.proofs.Common.{◌∙◌, ap, sym, subst}
use Rattle.bf_block.specs.Eighth.{AreOctet, merged_block}
use Rattle.bf_block.proofs.block.Block.merged.Goals as goal

pub returns-in-Ok-clause-block : goal.returns-in-Ok-clause-block
returns-in-Ok-clause-block c = λ case time parent octet.
    c.in-Ok.ensures case time parent (subst (AreOctet case time parent) (sym c.as_slice.ensures.value) octet)
    ∙ ap (merged_block case time parent) c.as_slice.ensures.value
