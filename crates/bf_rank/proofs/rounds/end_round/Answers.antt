use Rattle.bf_rank.proofs.PassLemmas.{end_finish}
use Rattle.bf_rank.proofs.rounds.end_round.Goals as goal

pub finish-requires : goal.finish-requires
finish-requires g c = end_finish _ _ _ c.requires.0 _ c.requires.1.0 _ _ c.requires.1.1
