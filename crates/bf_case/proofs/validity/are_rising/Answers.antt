use Rattle.std.proofs.lemmas.Bool.{false≢true}
use Rattle.std.proofs.lemmas.List.{length-map}
use Rattle.bf_case.proofs.RisingLemmas.{not_rising, rising_more}
use Rattle.bf_case.proofs.validity.are_rising.Goals as goal

pub returns-then-deaths-i : goal.returns-then-deaths-i
returns-then-deaths-i c = (
  λ e. absurd (false≢true e),
  λ rising. absurd (not_rising c.args.deaths.now c.loop-i.i c.loop-i.auto.i c.loop-i-test.true c.if-deaths-i.true (length-map _ _) rising),
)

pub loop-i-preserved : goal.loop-i-preserved
loop-i-preserved c =
    rising_more c.args.deaths.now c.loop-i.i c.loop-i.auto.i c.loop-i-test.true c.if-deaths-i.false c.loop-i.invariant
