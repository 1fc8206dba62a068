use Rattle.bf_mark_rounds.proofs.ChainRowLemmas.{chain_balanced, chain_stops, heard_all, heard_late, own_all, own_late, target_is, target_late}
use Rattle.bf_mark_rounds.proofs.laws.fewer_force_rounds_are_not_enough.Goals as goal

pub returns : goal.returns
returns c = record {
  map = (chain_balanced, chain_stops);
  heard = (heard_late, heard_all);
  target = (target_late, target_is);
  own = (own_late, own_all);
}
