use Rattle.std.proofs.Common.{◌≡◌, ◌≤◌, ◌*◌, take, sum}
use Rattle.bf_block.proofs.eighth.sum_of.Given as goal

abbrev pub invariant-loop-value : goal.invariant-loop-value
invariant-loop-value l = record { is : l.sum ≡ sum (take l.value-index l.values); small : l.sum ≤ 4294967295 * l.value-index }
