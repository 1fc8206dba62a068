use Rattle.std.proofs.Common.{[], ◌∷◌, ◌++◌, ◌∙◌}
use Rattle.std.proofs.lemmas.Result.{on_ok_weaker}
use Rattle.bf_world.proofs.QueueLemmas.{queue_changed, queue_same, messages_here, messages_elsewhere}
use Rattle.bf_world.proofs.queues.Queues.push.Goals as goal
use Rattle.bf_world.proofs.queues.Queues.push.Goals.{in-Ok, in-Err}

pub returns-clause-ok : goal.returns-clause-ok
returns-clause-ok g c =
    elim c.match-pushed.branch [
      | in-Ok w ↦ rw w.result-is
          (queue_changed (λ queue. queue.items) (λ queue. queue ++ c.args.message ∷ []) _ _ _ _ _ _ _ _ c.self.view_is c.channel-channel.ensures.channel
          c.channel-channel.ensures.within c.index_mut.ensures.value w.in-Ok.ensures.items)
      | in-Err w ↦ rw w.result-is tt
    ]

pub returns-clause-here : goal.returns-clause-here
returns-clause-here g c =
    on_ok_weaker c.match-pushed.result
    (messages_here c.args.self.now _ c.args.from c.args.to _ _ c.channel-channel.ensures.channel c.channel-channel.ensures.within)
    (returns-clause-ok g c)

pub returns-clause-others : goal.returns-clause-others
returns-clause-others g c =
    on_ok_weaker c.match-pushed.result
    (messages_elsewhere c.args.self.now _ c.args.from c.args.to _ c.requires.to)
    (returns-clause-ok g c)

pub returns-clause-err : goal.returns-clause-err
returns-clause-err g c =
    elim c.match-pushed.branch [
      | in-Ok w ↦ rw w.result-is tt
      | in-Err w ↦ rw w.result-is
          (queue_same (λ queue. queue.items) _ _ _ _ _ c.index_mut.ensures.value w.in-Err.ensures.items ∙ c.self.view_is)
    ]
