use Rattle.bf_plain.specs.Step.{AreLoaded}
use Rattle.bf_plain.proofs.step.load_values.Given as goal

abbrev pub invariant-loop-own : goal.invariant-loop-own
invariant-loop-own l = AreLoaded l.side l.fn.leaves l.leaves l.fresh l.own
