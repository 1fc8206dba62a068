use Rattle.bf_forest.specs.DealtLaws.{good_where_dealt}
use Rattle.bf_forest.proofs.laws.good_vectors_are_those_dealt.Goals as goal

pub returns : goal.returns
returns c = good_where_dealt
