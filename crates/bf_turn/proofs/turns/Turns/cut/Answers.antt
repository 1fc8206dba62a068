use Rattle.std.proofs.Common.{rules, ◌≡◌, [], ap, subst, sym}
use Rattle.std.specs.Prelude.{Contains}
use Rattle.bf_turn.specs.Logs.{entries_of}
use Rattle.bf_turn.proofs.OrderLemmas.{splits}
use Rattle.bf_turn.proofs.turns.Turns.cut.Goals as goal

pub split_seat-other-requires : goal.split_seat-other-requires
split_seat-other-requires g c =
    let key = c.self.inside.table.shared.key in
    let inner = c.seat.inside.inner in
    let known = ap (λ s. s.known) c.seat.view_is in
    let picked = c.requires.picked in (
      search rules,
      search rules,
      splits g.S.Logged.log g.S.Logged.name g.S.Logged.party key.parties (g.S.Logged.name key.first.value) inner.id inner.me.0 g.B.Picked.party c.seat.invariant.1
          (subst (λ k. Contains k.parties g.B.Picked.party) (sym known) (subst (λ p. Contains c.args.seat.known.parties p) (sym picked) c.requires.party))
          (subst (λ k. entries_of g.S.Logged.party g.B.Picked.party k.calls ≡ []) (sym known)
          (subst (λ p. entries_of g.S.Logged.party p c.args.seat.known.calls ≡ []) (sym picked) c.requires.unused)),
    )
