use Rattle.std.proofs.Common.{◌∙◌}
use Rattle.bf_plain.proofs.RunLemmas.{first_map, first_is_model, next_is_model}
use Rattle.bf_plain.proofs.run.one_run.Goals as goal

pub of-requires-clause-forest : goal.of-requires-clause-forest
of-requires-clause-forest c = first_map c.args.case.now _ c.requires.valid c.in_ok-beginning.ensures

pub loop-now-init : goal.loop-now-init
loop-now-init c = record {
  leaves = c.in_ok-run.ensures.leaves ∙ first_is_model c.args.case.now _ c.in_ok-beginning.ensures;
  ready = c.in_ok-run.ensures.ready;
}

pub loop-now-preserved : goal.loop-now-preserved
loop-now-preserved c = record {
  leaves = next_is_model c.args.case.now c.loop-now.now c.loop-now.run.leaves.items c.in_ok-run-2.run'.leaves.items _
      c.loop-now.invariant.leaves c.in_ok-run-2.ensures.leaves c.step.ensures.leaves;
  ready = c.step.ensures.ready;
}
