use Rattle.std.proofs.Common.{rules}
use Rattle.bf_turn.proofs.OrderLemmas.{joins, recalls}
use Rattle.bf_turn.proofs.turns.Turns.join.Goals as goal

pub join_seat-requires : goal.join_seat-requires
join_seat-requires g c =
    let key = c.self.inside.table.shared.key in
    let a = c.a.inside.inner in
    let b = c.b.inside.inner in (
      search rules,
      search rules,
      c.b.invariant.0,
      search rules,
      joins g.S.Logged.log g.S.Logged.name g.S.Logged.party key.parties (g.S.Logged.name key.first.value) a.id a.me.0 b.id b.me.0 c.a.invariant.1 c.b.invariant.1,
    )

pub load-requires : goal.load-requires
load-requires g c =
    let key = c.self.inside.table.shared.key in
    let seat = c.join_seat.new.seat in (
      search rules,
      search rules,
      recalls g.S.Logged.log g.S.Logged.name g.S.Logged.party key.parties (g.S.Logged.name key.first.value) c.self.inside.table.shared.table_id.slots seat.id seat.me (search rules),
    )
