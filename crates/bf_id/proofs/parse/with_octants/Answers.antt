use Rattle.std.proofs.Common.{arith}
use Rattle.bf_id.proofs.Texts.{digit_of}
use Rattle.bf_id.proofs.parse.with_octants.Goals as goal
use Rattle.bf_id.proofs.parse.with_octants.Goals.{then-digit-lt48-via-then-digit-lt48, then-digit-lt48-via-else-digit-lt48+then-digit-gt55}

pub returns-then-digit-lt48 : goal.returns-then-digit-lt48
returns-then-digit-lt48 c = λ i valid e.
    let d = digit_of i c.args.digits.now c.loop-digit.digit-index valid e (omega arith) in
    elim c.then-digit-lt48.branch [
      | then-digit-lt48-via-then-digit-lt48 w ↦ omega arith
      | then-digit-lt48-via-else-digit-lt48+then-digit-gt55 w ↦ omega arith
    ]
