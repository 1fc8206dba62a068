use Rattle.bf_plain.proofs.StepLemmas.{loaded_step}
use Rattle.bf_plain.proofs.step.step.Goals as goal

pub returns-clause-leaves : goal.returns-clause-leaves
returns-clause-leaves c =
    loaded_step c.args.case.now.roots c.args.case.now.side c.args.leaves.now _ c.step_values.new.fresh c.load_values.ensures c.step_values.ensures.fresh
