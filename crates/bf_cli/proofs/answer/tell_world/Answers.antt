use Rattle.std.proofs.Common.{◌≡◌, subst, ◌∙◌, sym, ap}
use Rattle.std.specs.Prelude.{Some}
use Rattle.bf_core.specs.declared.outcome.Outcome.{Outcome}
use Rattle.bf_core.specs.declared.outcome.Outcome.TheVariants.{Finished}
use Rattle.bf_cli.specs.Driven.{outcome_of}
use Rattle.bf_cli.specs.Told.{IsMeantBy}
use Rattle.bf_cli.proofs.answer.tell_world.Goals as goal

pub returns-in-Some-Finished : goal.returns-in-Some-Finished
returns-in-Some-Finished g c =
    let world = c.args.world.now in
    let finished : outcome_of world ≡ Some Finished = sym c.outcome.ensures ∙ c.in-Some-Finished.is ∙ ap (λ (o : Outcome). Some o) c.in-Some-Finished.field-0-is in
    let told = c.tell_leaves.ensures in
    (told.0, (told.1.0, (subst (λ o. IsMeantBy world o told.0 told.1.0) (sym finished) told.1.1.0, told.1.1.1)))
