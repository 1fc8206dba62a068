use Rattle.std.proofs.Common.{◌≡◌, false, inr, ap, refl, sym, subst}
use Rattle.bf_world.specs.Runs.{run_after}
use Rattle.bf_world.specs.Worlds.{ReceivesNext, HasGot, core_after}
use Rattle.bf_core.specs.States.{has_dead_member}
use Rattle.bf_rank.specs.Ranks.{sight}
use Rattle.bf_rank.proofs.AccountLemmas.{of_setup, queues_of_setup, at_place, receives_next, takes_next, has_received, has_broken, nothing_offered, receives_some, not_ok}
use Rattle.bf_rank.proofs.PassLemmas.{where_ok, comes_at}
use Rattle.bf_rank.proofs.receiving.receive.Goals as goal

pub recv-requires : goal.recv-requires
recv-requires g c =
    let laws = g.met.P.RankProgram.lawful c.args.setup.now in
    let legal = of_setup _ _ c.args.setup.now _ c.requires.same c.known.ensures.legal in
    subst (λ s. ReceivesNext g.P.RankProgram.meanings s c.args.world.now.journal c.args.rank c.args.peer) (sym c.requires.same)
    (receives_next _ _ _ _ laws _ legal _ _ _ _ _ (at_place _ _ _ _ laws _ legal _ _ _ _ c.requires.may) c.requires.next)

pub take-next-requires : goal.take-next-requires
take-next-requires g c =
    let laws = g.met.P.RankProgram.lawful c.args.setup.now in
    let legal = of_setup _ _ c.args.setup.now _ c.requires.same c.known.ensures.legal in
    let has = subst (λ q. HasGot g.P.RankProgram.meanings c.args.setup.now c.args.world.now c.recv.new.self c.args.rank c.args.peer q) c.in-Message.is
    (subst (λ s. HasGot g.P.RankProgram.meanings s c.args.world.now c.recv.new.self c.args.rank c.args.peer c.in-Ok.got) c.requires.same c.in-Ok.ensures.ok) in (
      sight (run_after g.P.RankProgram.meanings c.args.setup.now c.args.world.now.journal) c.args.rank,
      (
        c.args.rank,
        takes_next _ _ _ _ laws _ legal _ _ _ _ _ _ (at_place _ _ _ _ laws _ legal _ _ _ _ c.requires.may) c.requires.next has.1.0,
      ),
    )

pub returns-in-Message-clause-stepped : goal.returns-in-Message-clause-stepped
returns-in-Message-clause-stepped g c =
    let laws = g.met.P.RankProgram.lawful c.args.setup.now in
    let legal = of_setup _ _ c.args.setup.now _ c.requires.same c.known.ensures.legal in
    let has = subst (λ q. HasGot g.P.RankProgram.meanings c.args.setup.now c.args.world.now c.recv.new.self c.args.rank c.args.peer q) c.in-Message.is
    (subst (λ s. HasGot g.P.RankProgram.meanings s c.args.world.now c.recv.new.self c.args.rank c.args.peer c.in-Ok.got) c.requires.same c.in-Ok.ensures.ok) in
    let at = at_place _ _ _ _ laws _ legal _ _ _ _ c.requires.may in
    has_received _ _ _ _ laws _ legal c.args.world.now.waiting (queues_of_setup _ _ c.args.setup.now _ _ c.requires.same c.known.ensures.queues) _ _ _ _ _ at c.requires.next
    _ _ _ _ has.0 has.1.1
    (comes_at g.P.RankProgram.meanings g.P.RankProgram.good c.args.setup.now _ _ _ c.take-next.new.local c.take-next.result c.stand_at.result
    (where_ok _ _ c.take-next.result (λ next takes. takes _ _ (takes_next _ _ _ _ laws _ legal _ _ _ _ _ _ at c.requires.next has.1.0)) c.take-next.ensures)
    c.stand_at.ensures.ok c.stand_at.ensures.err)

pub returns-in-NotYet-clause-stepped : goal.returns-in-NotYet-clause-stepped
returns-in-NotYet-clause-stepped g c =
    let laws = g.met.P.RankProgram.lawful c.args.setup.now in
    let legal = of_setup _ _ c.args.setup.now _ c.requires.same c.known.ensures.legal in
    let has = subst (λ q. HasGot g.P.RankProgram.meanings c.args.setup.now c.args.world.now c.recv.new.self c.args.rank c.args.peer q) c.in-NotYet.is
    (subst (λ s. HasGot g.P.RankProgram.meanings s c.args.world.now c.recv.new.self c.args.rank c.args.peer c.in-Ok.got) c.requires.same c.in-Ok.ensures.ok) in (
      ap (λ w. w.journal) has.1.1.1,
      (
        refl,
        nothing_offered _ _ _ _ laws _ legal c.args.world.now.waiting (queues_of_setup _ _ c.args.setup.now _ _ c.requires.same c.known.ensures.queues) _ _ _ _ _
            (at_place _ _ _ _ laws _ legal _ _ _ _ c.requires.may) c.requires.next has.0 has.1.0 has.1.1.0 c.requires.may.undue,
      ),
    )

pub returns-in-Broken-clause-stepped : goal.returns-in-Broken-clause-stepped
returns-in-Broken-clause-stepped g c =
    let laws = g.met.P.RankProgram.lawful c.args.setup.now in
    let legal = of_setup _ _ c.args.setup.now _ c.requires.same c.known.ensures.legal in
    let has = subst (λ q. HasGot g.P.RankProgram.meanings c.args.setup.now c.args.world.now c.recv.new.self c.args.rank c.args.peer q) c.in-Broken.is
    (subst (λ s. HasGot g.P.RankProgram.meanings s c.args.world.now c.recv.new.self c.args.rank c.args.peer c.in-Ok.got) c.requires.same c.in-Ok.ensures.ok) in
    has_broken _ _ _ _ laws _ legal c.args.world.now.waiting (queues_of_setup _ _ c.args.setup.now _ _ c.requires.same c.known.ensures.queues) _ _ _ _ _
    (at_place _ _ _ _ laws _ legal _ _ _ _ c.requires.may) c.requires.next _ has.0 has.1.0 has.1.1

pub returns-in_default-clause-stepped : goal.returns-in_default-clause-stepped
returns-in_default-clause-stepped g c =
    let laws = g.met.P.RankProgram.lawful c.args.setup.now in
    let legal = of_setup _ _ c.args.setup.now _ c.requires.same c.known.ensures.legal in
    let at = at_place _ _ _ _ laws _ legal _ _ _ _ c.requires.may in (
      ap (λ w. w.journal) c.in_default.ensures.err,
      (
        at.runs,
        inr (receives_some _ _ _ _ laws _ legal c.args.world.now.waiting (queues_of_setup _ _ c.args.setup.now _ _ c.requires.same c.known.ensures.queues) _ _ _ _ _ at c.requires.next
            (λ none alive. absurd (not_ok c.recv.result _ c.in_default.is (c.recv.ensures.waits none
            (subst (λ s. has_dead_member (core_after g.P.RankProgram.meanings s c.args.world.now.journal) ≡ false) (sym c.requires.same) alive))))),
      ),
    )

pub returns-in-Short-clause-stepped : goal.returns-in-Short-clause-stepped
returns-in-Short-clause-stepped g c =
    let laws = g.met.P.RankProgram.lawful c.args.setup.now in
    let legal = of_setup _ _ c.args.setup.now _ c.requires.same c.known.ensures.legal in
    let at = at_place _ _ _ _ laws _ legal _ _ _ _ c.requires.may in
    let has = subst (λ q. HasGot g.P.RankProgram.meanings c.args.setup.now c.args.world.now c.recv.new.self c.args.rank c.args.peer q) c.in-Short.is
    (subst (λ s. HasGot g.P.RankProgram.meanings s c.args.world.now c.recv.new.self c.args.rank c.args.peer c.in-Ok.got) c.requires.same c.in-Ok.ensures.ok) in (
      ap (λ w. w.journal) has.1.1.1,
      (
        at.runs,
        inr (receives_some _ _ _ _ laws _ legal c.args.world.now.waiting (queues_of_setup _ _ c.args.setup.now _ _ c.requires.same c.known.ensures.queues) _ _ _ _ _ at c.requires.next
            (λ _ _. has.1.1.0)),
      ),
    )
