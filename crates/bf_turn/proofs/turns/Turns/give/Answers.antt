use Rattle.std.proofs.Common.{rules, ◌∙◌, ◌∷◌, ap, subst, sym}
use Rattle.std.specs.Prelude.{Some}
use Rattle.atomic_table.specs.Table.{rest}
use Rattle.bf_turn.specs.Logs.{GoesOn}
use Rattle.bf_turn.proofs.OrderLemmas.{gives_back}
use Rattle.bf_turn.proofs.turns.Turns.give.Goals as goal

pub swap-requires : goal.swap-requires
swap-requires g c =
    let put = c.exchange.ensures in
    let state = c.args.held.state in
    let key = c.self.inside.table.shared.key in
    let view = sym (ap (λ m. m.0) put.3) in
    let known = ap (λ v. v.known) (sym view) ∙ ap (λ s. s.known) c.grip.view_is in (
      search rules,
      search rules,
      gives_back g.S.Logged.log g.S.Logged.name g.S.Logged.party key.parties (g.S.Logged.name key.first.value)
          c.self.inside.table.shared.table_id.slots c.exchange.new.seat.id c.exchange.new.seat.me state
          (ap (λ m. m.1) put.3 ∙ ap (λ l. (0, Some state) ∷ rest l) c.grip.invariant.0)
          (sym (ap (λ v. v.turn) view) ∙ c.grip.invariant.1)
          (ap (λ k. k.name) known ∙ c.requires.named)
          (subst (λ k. GoesOn g.S.Logged.party k.parties k.seen (g.S.Logged.log state)) (sym known) c.requires.grown),
    )
