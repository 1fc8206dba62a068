use Rattle.bf_core.proofs.LegalLemmas.{actor_of, to_of, peer_of}
use Rattle.bf_core.proofs.core_state.CoreState.apply.Goals as goal

pub send-requires-clause-rank : goal.send-requires-clause-rank
send-requires-clause-rank c = actor_of c.args.self.now _ _ c.known.ensures c.requires.legal c.in-Send.is

pub send-requires-clause-to : goal.send-requires-clause-to
send-requires-clause-to c = to_of c.args.self.now _ _ _ _ _ c.requires.legal c.in-Send.is

pub receive-requires-clause-rank : goal.receive-requires-clause-rank
receive-requires-clause-rank c = actor_of c.args.self.now _ _ c.known.ensures c.requires.legal c.in-Recv.is

pub receive-requires-clause-peer : goal.receive-requires-clause-peer
receive-requires-clause-peer c = peer_of c.args.self.now _ _ _ c.requires.legal c.in-Recv.is

pub stop-requires-clause-rank : goal.stop-requires-clause-rank
stop-requires-clause-rank c = actor_of c.args.self.now _ _ c.known.ensures c.requires.legal c.in-Arrive.is

pub set_stage-requires-clause-rank : goal.set_stage-requires-clause-rank
set_stage-requires-clause-rank c = actor_of c.args.self.now _ _ c.known.ensures c.requires.legal c.in-Leave.is

pub stop-requires-in-Die-clause-rank : goal.stop-requires-in-Die-clause-rank
stop-requires-in-Die-clause-rank c = actor_of c.args.self.now _ _ c.known.ensures c.requires.legal c.in-Die.is
