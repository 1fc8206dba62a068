use Rattle.std.proofs.Common.{arith, rules, ◌+◌, ◌≤◌, length, length-append, ℕ}
use Rattle.std.proofs.lemmas.Grind.{common_steps}
use Rattle.std.proofs.lemmas.List.{length-take}
use Rattle.bf_edge.proofs.Taking.{Took-more, Took-passes}
use Rattle.bf_edge.proofs.source.read_up_to.Goals as goal

pub returns-in_err-given-clause-passed : goal.returns-in_err-given-clause-passed
returns-in_err-given-clause-passed g c =
    let room : length c.loop-chunk.bytes.items + length c.append_read.new.chunk ≤ c.args.limit + 1 = omega (arith, length-take {A = ℕ}) in
    let passed = Took-passes _ _ _ _ _ (c.args.limit + 1) c.loop-chunk.invariant.took c.in_err-given.ensures.passed room in
    grind (arith, common_steps, passed)

pub loop-chunk-preserved : goal.loop-chunk-preserved
loop-chunk-preserved g c = record {
  within = rw c.in_ok-given.ensures.appended (omega (arith, length-append {A = ℕ}, length-take {A = ℕ}));
  took = rw c.in_ok-given.ensures.appended (Took-more _ _ _ _ _ _ c.loop-chunk.invariant.took c.in_ok-given.ensures.within c.in_ok-given.ensures.given c.in_ok-given.ensures.rest);
  steady = search rules;
}
