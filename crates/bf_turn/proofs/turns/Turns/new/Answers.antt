use Rattle.std.proofs.Common.{rules, ◌≡◌, ◌∷◌, [], subst, sym}
use Rattle.std.specs.Prelude.{Some}
use Rattle.atomic_table.specs.Table.{opening}
use Rattle.bf_turn.specs.Views.{first_view}
use Rattle.bf_turn.specs.Order.{IsOrderly}
use Rattle.bf_turn.proofs.OrderLemmas.{opens}
use Rattle.bf_turn.proofs.turns.Turns.new.Goals as goal

pub new-requires : goal.new-requires
new-requires g c =
    let state = c.args.state in
    subst (λ slots. IsOrderly g.S.Logged.log g.S.Logged.name g.S.Logged.party c.args.parties (g.S.Logged.name c.of.result.value)
    (opening (0 ∷ []) slots (first_view c.args.parties (g.S.Logged.name c.of.result.value)))) (sym (let e : c.push_reserved.new.self.items ≡ Some state ∷ [] = search rules in e))
    (subst (λ s. IsOrderly g.S.Logged.log g.S.Logged.name g.S.Logged.party c.args.parties (g.S.Logged.name s)
    (opening (0 ∷ []) (Some state ∷ []) (first_view c.args.parties (g.S.Logged.name s)))) (sym c.of.ensures)
    (opens g.S.Logged.log g.S.Logged.name g.S.Logged.party c.args.parties state c.requires))
