use Rattle.std.proofs.Common.{arith}
use Rattle.bf_rank.proofs.PassLemmas.{asks_peers, may_finish, has_peers, has_none}
use Rattle.bf_rank.proofs.rounds.pass_round.Goals as goal

pub peers-peers-requires : goal.peers-peers-requires
peers-peers-requires g c =
    let laws = g.met.P.RankProgram.lawful c.args.setup.now in
    asks_peers _ _ _ laws.goods laws.peers c.requires.begins.0 _ c.requires.begins.1.0 _ _ c.requires.begins.1.1 c.requires.within

pub finish-requires : goal.finish-requires
finish-requires g c =
    let laws = g.met.P.RankProgram.lawful c.args.setup.now in
    may_finish _ _ _ laws.goods laws.peers c.requires.begins.0 _ c.requires.begins.1.0 _ _ c.requires.begins.1.1 c.peers-peers.result c.requires.within c.peers-peers.ensures (omega (arith, c.count.ensures.count))

pub returns-then-count-gt0 : goal.returns-then-count-gt0
returns-then-count-gt0 g c = λ seen rank begins.
    let laws = g.met.P.RankProgram.lawful c.args.setup.now in
    has_peers _ _ _ laws.goods laws.peers seen _ rank _ _ begins c.peers-peers.result c.requires.within c.peers-peers.ensures (omega (arith, c.count.ensures.count))

pub returns : goal.returns
returns g c = λ seen rank begins.
    let laws = g.met.P.RankProgram.lawful c.args.setup.now in
    has_none _ _ _ laws.goods laws.peers seen _ rank _ _ begins c.peers-peers.result _ c.requires.within c.peers-peers.ensures (omega (arith, c.count.ensures.count)) c.in_ok-finish.ensures
