use Rattle.std.proofs.lemmas.Result.{on_err_weaker}
use Rattle.bf_edge.proofs.PageLemmas.{puts_after_flush, breaks_past_flush}
use Rattle.bf_edge.proofs.page.put_after_flush.Goals as goal

pub returns-then-has_room-clause-puts : goal.returns-then-has_room-clause-puts
returns-then-has_room-clause-puts g c =
    puts_after_flush c.in_ok-flush.ensures.all c.in_ok-flush.ensures.empty c.push.ensures

pub returns-clause-prefix : goal.returns-clause-prefix
returns-clause-prefix g c =
    on_err_weaker c.write_all.result (breaks_past_flush _ _ c.in_ok-flush.ensures.all) c.write_all.ensures.prefix
