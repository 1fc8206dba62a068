use Rattle.std.proofs.Common.{◌≡◌, ◌∙◌, arith, subst, sym, rules}
use Rattle.std.specs.Prelude.{None}
use Rattle.std.proofs.lemmas.Option.{slice_get_within}
use Rattle.bf_core.specs.Places.{next_receive}
use Rattle.bf_world.specs.Worlds.{SendsNext}
use Rattle.bf_world.proofs.WorldLemmas.{where_ok}
use Rattle.bf_rank.proofs.AccountLemmas.{of_setup, at_rounds, sends_some, may_out, sends_next, has_sent}
use Rattle.bf_rank.proofs.giving.send.Goals as goal

pub unreachable-requires-in_default-at : goal.unreachable-requires-in_default-at
unreachable-requires-in_default-at g c =
    let laws = g.met.P.RankProgram.lawful c.args.setup.now in
    let legal = of_setup _ _ c.args.setup.now _ c.requires.same c.known.ensures.legal in
    let none = subst (λ p. next_receive p ≡ None) c.in-Rounds.is c.requires.rounds in
    sends_some _ _ _ _ laws _ legal _ _ _ _ _ _ _ (at_rounds _ _ _ _ laws _ legal _ _ _ _ _ c.requires.may c.in-Rounds.is) none (sym c.at.ensures ∙ c.in_default-at.is)

pub out-requires : goal.out-requires
out-requires g c =
    let laws = g.met.P.RankProgram.lawful c.args.setup.now in
    let legal = of_setup _ _ c.args.setup.now _ c.requires.same c.known.ensures.legal in
    may_out _ _ _ _ laws _ legal _ _ _ _ _ _ _ _ (at_rounds _ _ _ _ laws _ legal _ _ _ _ _ c.requires.may c.in-Rounds.is) (sym c.at.ensures ∙ c.in-Some.is)

pub send-requires : goal.send-requires
send-requires g c =
    let laws = g.met.P.RankProgram.lawful c.args.setup.now in
    let legal = of_setup _ _ c.args.setup.now _ c.requires.same c.known.ensures.legal in
    subst (λ s. SendsNext g.P.RankProgram.meanings s c.args.world.now.journal c.args.rank c.in-Some.to c.in_ok-msg.msg) (sym c.requires.same)
    (sends_next _ _ _ _ laws _ legal _ _ _ _ _ _ _ _ (at_rounds _ _ _ _ laws _ legal _ _ _ _ _ c.requires.may c.in-Rounds.is) (sym c.at.ensures ∙ c.in-Some.is) _ c.in_ok-msg.ensures.msg)

pub overflow_add-result : goal.overflow_add-result
overflow_add-result g c =
    let below = slice_get_within c.in-Rounds.peers c.in-Rounds.sent c.in-Some.to (sym c.at.ensures ∙ c.in-Some.is) in
    omega (arith, below, c.count.ensures.within)

pub returns-clause-ok : goal.returns-clause-ok
returns-clause-ok g c =
    let laws = g.met.P.RankProgram.lawful c.args.setup.now in
    let legal = of_setup _ _ c.args.setup.now _ c.requires.same c.known.ensures.legal in
    has_sent _ _ _ _ laws _ legal _ _ _ _ _ _ _ _ (at_rounds _ _ _ _ laws _ legal _ _ _ _ _ c.requires.may c.in-Rounds.is) (sym c.at.ensures ∙ c.in-Some.is)
    _ _ _ _ (where_ok c.send.result (search rules) c.send.ensures.journal) c.in_ok-msg.ensures.local
