use Rattle.std.proofs.Common.{arith, rules}
use Rattle.std.proofs.lemmas.List.{take_rest}
use Rattle.std.proofs.lemmas.Grind.{common_steps}
use Rattle.bf_edge.proofs.Appending.{appended-take_more}
use Rattle.bf_edge.proofs.sink.write_all.Goals as goal

pub loop-done-preserved : goal.loop-done-preserved
loop-done-preserved g c = record {
  within = grind (arith, common_steps);
  taken = appended-take_more _ _ _ _ _ _ _ c.loop-done.invariant.taken (take_rest c.args.bytes.now c.loop-done.done) c.in_ok-done.ensures.taken;
  steady = search rules;
}
