use Rattle.bf_migrate_rounds.specs.Shares.{two_way_peers}
use Rattle.bf_migrate_rounds.proofs.CallLemmas.{can_pack, can_unpack}
use Rattle.bf_migrate_rounds.proofs.laws.ranks_can_pack_and_unpack.Goals as goal

pub returns : goal.returns
returns s = record {
  sent = λ c time owner later members rank done runs does. can_pack c time runs does owner later rank done;
  heard = λ c time owner later members rank done runs does. can_pack c time runs does owner later rank (two_way_peers c time owner later members rank);
  on_hand = λ c time owner later members rank runs does rise owned owned_later member. can_unpack c time runs does owner later members rise owned owned_later rank member;
}
