use Rattle.bf_case.proofs.AcrossLemmas.{levels_near}
use Rattle.bf_case.proofs.laws.what_lies_across_is_near.Goals as goal

pub returns : goal.returns
returns c = levels_near
