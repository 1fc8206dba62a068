use Rattle.std.proofs.Common.{◌≡◌, ◌∙◌, ◌++◌, ◌∷◌, [], None, true, false, inl, inr, ap, refl, sym, subst}
use Rattle.bf_core.specs.declared.event.Event.TheVariants.{Arrive, Die}
use Rattle.bf_core.specs.declared.event.How.TheVariants.{Memory}
use Rattle.bf_core.specs.States.{is_due}
use Rattle.bf_world.specs.Worlds.{core_after}
use Rattle.bf_rank.specs.declared.stand.Stand.TheVariants as stands
use Rattle.bf_rank.specs.declared.stand.Step.TheVariants as steps
use Rattle.bf_rank.specs.Ranks.{IsAt, IsOfferedSome, event_of_failed}
use Rattle.bf_rank.specs.Steps.{viewed}
use Rattle.bf_rank.proofs.AccountLemmas.{of_setup, has_died, has_failed, turned, turn_made, ok_of}
use Rattle.bf_rank.proofs.rank.Rank.turn_here.Goals as goal

pub returns-then-due : goal.returns-then-due
returns-then-due g c =
    let laws = g.met.P.RankProgram.lawful c.args.setup.now in
    let legal = of_setup _ _ c.args.setup.now _ c.requires.same c.known.ensures.legal in
    let its = ap (λ v. v.rank) c.self.view_is in
    let due = subst (λ r. is_due (core_after g.P.RankProgram.meanings c.args.setup.now c.args.world.now.journal) r ≡ true) its
    (subst (λ s. is_due (core_after g.P.RankProgram.meanings s c.args.world.now.journal) c.self.inside.rank ≡ true) c.requires.same (sym c.due.ensures ∙ c.if-due.true)) in
    let made = turn_made _ _ _ _ _ c.args.self.now.rank c.args.self.now.rank c.args.self.now.local c.args.self.now.epoch stands.Ended c.stand_on.new.self c.stand_on.result
    (has_died _ _ _ _ laws _ legal _ (viewed c.args.self.now.rank c.args.self.now.local c.args.self.now.epoch stands.Ended) c.requires.at.within due refl
    (c.die.ensures.journal ∙ ap (λ r. c.args.world.now.journal ++ Die r ∷ []) its))
    c.stand_on.ensures.view c.stand_on.ensures.turn refl in
    record {
      setup = c.die.ensures.setup;
      rank = made.its;
      at = made.at;
      turn = made.turn;
      as_before = λ waits. absurd (made.moves waits);
      ended = λ _. c.stand_on.ensures.turn;
      failed = λ fails. c.die.ensures.journal ∙ ap (λ r. c.args.world.now.journal ++ Die r ∷ []) its
          ∙ ap (λ b. c.args.world.now.journal ++ event_of_failed b c.args.self.now.rank ∷ []) (sym due);
      lacking = λ _ _. (Die c.args.self.now.rank, record { its = refl; legal = due; memory = λ is. absurd (cc) });
      opened = λ _. made.opened;
    }

pub returns-in-Moved : goal.returns-in-Moved
returns-in-Moved g c =
    let made = turn_made _ _ _ _ _ c.self.inside.rank c.args.self.now.rank c.step-made.new.local c.step-made.new.epoch c.in-Moved.next c.stand_on-in-Moved.new.self c.stand_on-in-Moved.result
    (turned _ _ _ _ _ _ c.in-Moved.ensures.stepped) c.stand_on-in-Moved.ensures.view c.stand_on-in-Moved.ensures.turn (ap (λ v. v.rank) c.self.view_is) in
    record {
      setup = c.step-made.ensures.setup;
      rank = made.its;
      at = made.at;
      turn = made.turn;
      as_before = λ waits. absurd (made.moves waits);
      ended = λ ends. absurd (c.in_default.not-Ended (ap (λ v. v.stand) c.self.view_is ∙ ends));
      failed = λ fails. absurd (let e : steps.Moved c.in-Moved.next ≡ steps.Short = sym c.in-Moved.is ∙ c.step-made.ensures.fails (ap (λ v. v.stand) c.self.view_is ∙ fails) in cc);
      lacking = λ _ _. subst (λ r. IsOfferedSome g.P.RankProgram.meanings g.P.RankProgram.good c.args.setup.now c.args.world.now.journal r) (ap (λ v. v.rank) c.self.view_is)
          (c.in-Moved.ensures.stepped.event, c.in-Moved.ensures.stepped.offered);
      opened = λ _. made.opened;
    }

pub returns-in-Short : goal.returns-in-Short
returns-in-Short g c =
    let laws = g.met.P.RankProgram.lawful c.args.setup.now in
    let legal = of_setup _ _ c.args.setup.now _ c.requires.same c.known.ensures.legal in
    let its = ap (λ v. v.rank) c.self.view_is in
    let undue = subst (λ r. is_due (core_after g.P.RankProgram.meanings c.args.setup.now c.args.world.now.journal) r ≡ false) its
    (subst (λ s. is_due (core_after g.P.RankProgram.meanings s c.args.world.now.journal) c.self.inside.rank ≡ false) c.requires.same (sym c.due.ensures ∙ c.if-due.false)) in
    let at = subst (IsAt g.P.RankProgram.meanings g.P.RankProgram.good c.args.setup.now c.args.world.now.journal) (sym c.self.view_is) c.requires.at in
    let more = ok_of c.arrive.result (c.arrive.ensures.memory refl) c.arrive.ensures.journal
    ∙ ap (λ j. j ++ Arrive c.self.inside.rank Memory ∷ []) c.in-Short.ensures.stepped.0 in
    let made = turn_made _ _ _ _ _ c.self.inside.rank c.args.self.now.rank None c.step-made.new.epoch stands.Arrived c.stand_on-in-Short.new.self c.stand_on-in-Short.result
    (has_failed _ _ _ _ laws _ legal _ (viewed c.self.inside.rank None c.step-made.new.epoch stands.Arrived) at.within c.in-Short.ensures.stepped.1.0 refl refl more)
    c.stand_on-in-Short.ensures.view c.stand_on-in-Short.ensures.turn (ap (λ v. v.rank) c.self.view_is) in
    record {
      setup = c.arrive.ensures.setup ∙ c.step-made.ensures.setup;
      rank = made.its;
      at = made.at;
      turn = made.turn;
      as_before = λ waits. absurd (made.moves waits);
      ended = λ ends. absurd (c.in_default.not-Ended (ap (λ v. v.stand) c.self.view_is ∙ ends));
      failed = λ fails. more ∙ ap (λ r. c.args.world.now.journal ++ Arrive r Memory ∷ []) its
          ∙ ap (λ b. c.args.world.now.journal ++ event_of_failed b c.args.self.now.rank ∷ []) (sym undue);
      lacking = λ unfailed _. subst (λ r. IsOfferedSome g.P.RankProgram.meanings g.P.RankProgram.good c.args.setup.now c.args.world.now.journal r) (ap (λ v. v.rank) c.self.view_is)
          (elim c.in-Short.ensures.stepped.1.1 [ inl fails ↦ absurd (unfailed (sym (ap (λ v. v.stand) c.self.view_is) ∙ fails)) | inr some ↦ some ]);
      opened = λ _. made.opened;
    }
