use Rattle.std.proofs.Common.{ap, ◌∙◌, sum}
use Rattle.bf_block.specs.EighthFields.{eighth_in}
use Rattle.bf_block.specs.Eighth.{EighthValue}
use Rattle.bf_block.proofs.EighthLemmas.{few_means}
use Rattle.bf_block.proofs.eighth.Eighth.sum.Goals as goal

pub sum_of-requires : goal.sum_of-requires
sum_of-requires c = few_means (eighth_in c.self.inside) c.as_slice.result.now c.self.invariant c.as_slice.ensures.value

pub returns : goal.returns
returns c = c.sum_of.ensures ∙ ap sum c.as_slice.ensures.value ∙ ap (λ (e : EighthValue). sum e.means.values) c.self.view_is
