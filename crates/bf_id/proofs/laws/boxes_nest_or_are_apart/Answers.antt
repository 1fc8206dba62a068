-- Each clause of the law is a lemma.
use Rattle.bf_id.proofs.Boxes.{nest_or_apart, begins_from_holds, begins_within}
use Rattle.bf_id.proofs.laws.boxes_nest_or_are_apart.Goals as goal

pub returns-clause-nest : goal.returns-clause-nest
returns-clause-nest c = nest_or_apart

pub returns-clause-begins : goal.returns-clause-begins
returns-clause-begins c = begins_from_holds

pub returns-clause-within : goal.returns-clause-within
returns-clause-within c = begins_within
