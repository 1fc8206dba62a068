use Rattle.bf_mark_rounds.proofs.RoundLemmas.{targets_are}
use Rattle.bf_mark_rounds.proofs.laws.marking_finds_the_targets.Goals as goal

pub returns : goal.returns
returns c = λ shape levels ids w owner rank i map_is few has known. targets_are shape ids levels map_is few w owner rank i has known
