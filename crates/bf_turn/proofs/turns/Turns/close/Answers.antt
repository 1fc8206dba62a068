use Rattle.std.proofs.Common.{ap}
use Rattle.bf_turn.proofs.OrderLemmas.{closes, ended_some, ended_is}
use Rattle.bf_turn.proofs.turns.Turns.close.Goals as goal

pub unreachable-requires : goal.unreachable-requires
unreachable-requires g c =
    let key = c.self.inside.table.shared.key in
    let inner = c.seat.inside.inner in
    ended_some g.S.Logged.log g.S.Logged.name g.S.Logged.party c.args.seat.known _ c.take-value.result
    (closes g.S.Logged.log g.S.Logged.name g.S.Logged.party key.parties (g.S.Logged.name key.first.value) inner.id inner.me.0 _ _
    c.close_with-closed.ensures.values.2 c.seat.invariant.1 c.seat.invariant.2
    c.args.self.parties c.args.seat.known (ap (λ l. l.parties) c.self.view_is) (ap (λ s. s.known) c.seat.view_is) c.requires.all)
    c.take-value.ensures.value c.in_default.is

pub returns : goal.returns
returns g c =
    let key = c.self.inside.table.shared.key in
    let inner = c.seat.inside.inner in
    let ended =
    ended_is g.S.Logged.log g.S.Logged.name g.S.Logged.party c.args.seat.known _ c.take-value.result
    (closes g.S.Logged.log g.S.Logged.name g.S.Logged.party key.parties (g.S.Logged.name key.first.value) inner.id inner.me.0 _ _
    c.close_with-closed.ensures.values.2 c.seat.invariant.1 c.seat.invariant.2
    c.args.self.parties c.args.seat.known (ap (λ l. l.parties) c.self.view_is) (ap (λ s. s.known) c.seat.view_is) c.requires.all)
    c.take-value.ensures.value c.in-Some.state c.in-Some.is in record {
      log = ended.0;
      calls = ended.1;
      named = ended.2;
    }
