use Rattle.bf_marks.proofs.TargetLemmas.{heard_known}
use Rattle.bf_marks.proofs.laws.what_is_heard_is_known.Goals as goal

pub returns : goal.returns
returns c = heard_known
