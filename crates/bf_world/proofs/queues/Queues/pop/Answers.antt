use Rattle.std.proofs.Common.{drop, rules}
use Rattle.bf_world.proofs.QueueLemmas.{queue_changed, messages_here, messages_elsewhere}
use Rattle.bf_world.proofs.queues.Queues.pop.Goals as goal

pub returns-clause-rest : goal.returns-clause-rest
returns-clause-rest g c =
    queue_changed (λ queue. queue.items) (drop 1) _ _ _ _ _ _ _ _ c.self.view_is c.channel-channel.ensures.channel c.channel-channel.ensures.within c.index_mut.ensures.value
    (search rules)

pub returns-clause-here : goal.returns-clause-here
returns-clause-here g c =
    messages_here c.args.self.now _ c.args.from c.args.to _ _ c.channel-channel.ensures.channel c.channel-channel.ensures.within (returns-clause-rest g c)

pub returns-clause-others : goal.returns-clause-others
returns-clause-others g c =
    messages_elsewhere c.args.self.now _ c.args.from c.args.to _ c.requires.to (returns-clause-rest g c)
