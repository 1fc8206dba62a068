use Rattle.bf_marks.proofs.TargetLemmas.{targets_found}
use Rattle.bf_marks.proofs.laws.one_owner_finds_the_targets.Goals as goal

pub returns : goal.returns
returns c = λ shape levels ids owner w i few map_is stop has. targets_found shape levels ids owner w few map_is stop i has
