use Rattle.std.proofs.Common.{◌≡◌, ◌+◌, ◌-◌, ◌*◌, ◌^◌, min, get_or, arith}
use Rattle.bf_text.proofs.NumberLemmas.{capped_more}
use Rattle.bf_text.proofs.numbers.capped.Goals as goal

pub loop-digit-preserved : goal.loop-digit-preserved
loop-digit-preserved c =
    let next : c.min-value.result ≡ min (c.loop-digit.value * 10 + (get_or c.args.digits.now c.loop-digit.digit-index 0 - 48)) (2 ^ 32) = omega arith in
    capped_more c.args.digits.now c.loop-digit.digit-index c.loop-digit.value c.min-value.result (omega arith) c.requires c.loop-digit.invariant next
