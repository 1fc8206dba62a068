use Rattle.std.proofs.Common.{rules, ◌≢◌, [], subst, sym}
use Rattle.bf_turn.proofs.PartyLemmas.{some_there}
use Rattle.bf_turn.proofs.OrderLemmas.{tries, carried_there}
use Rattle.bf_turn.proofs.turns.Turns.take.Goals as goal

pub compare_exchange-found-requires : goal.compare_exchange-found-requires
compare_exchange-found-requires g c =
    let was = c.loop.invariant in
    let key = c.self.inside.table.shared.key in (
      search rules,
      search rules,
      tries g.S.Logged.log g.S.Logged.name g.S.Logged.party key.parties (g.S.Logged.name key.first.value)
          c.self.inside.table.shared.table_id.slots c.loop.inner.id c.loop.inner.me was.0.0
          (some_there c.loop.inner.me.0.known.parties (subst (λ known. known.parties ≢ []) (sym was.1) c.requires.party)) was.0.2,
    )

pub exchange-requires : goal.exchange-requires
exchange-requires g c =
    let took = c.compare_exchange-found.ensures.2.0 (search rules) in (
      search rules,
      carried_there _ _ took.0,
    )
