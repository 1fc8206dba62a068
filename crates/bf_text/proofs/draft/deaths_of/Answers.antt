use Rattle.std.proofs.Common.{arith}
use Rattle.bf_text.proofs.RangeLemmas.{death_more, deaths_done}
use Rattle.bf_text.proofs.draft.deaths_of.Goals as goal

pub loop-rank-preserved : goal.loop-rank-preserved
loop-rank-preserved c =
    death_more c.args.deaths.now c.loop-rank.list.items c.list_death.new.list.items c.loop-rank.rank c.loop-rank.invariant c.in_ok-list_death.ensures

pub returns : goal.returns
returns c = deaths_done c.args.deaths.now c.loop-rank.list.items c.loop-rank.rank (omega arith) c.loop-rank.invariant
