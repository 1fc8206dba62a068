use Rattle.std.proofs.Common.{◌+◌, ◌∙◌, ap, arith, drop, subst, sym}
use Rattle.std.specs.Prelude.{AllPairs}
use Rattle.bf_links.specs.Links.{ComesBefore}
use Rattle.bf_proxy.specs.Joined.{joined}
use Rattle.bf_proxy.proofs.JoinLemmas.{joined_end, joined_more, put_rises}
use Rattle.bf_proxy.proofs.joining.join.Goals as goal

pub loop-link-preserved : goal.loop-link-preserved
loop-link-preserved c = record {
  joined = ap (joined (drop (c.loop-link.link-index + 1) c.args.more.now)) c.in_ok-put.ensures
      ∙ joined_more c.args.more.now c.loop-link.all.items c.loop-link.link-index c.link-item.result c.loop-link-test.true c.link-item.is ∙ c.loop-link.invariant.joined;
  rising = subst (AllPairs ComesBefore) (sym c.in_ok-put.ensures) (put_rises c.link-item.result c.loop-link.all.items c.loop-link.invariant.rising);
}

pub returns-clause-joined : goal.returns-clause-joined
returns-clause-joined c =
    sym (joined_end c.args.more.now c.loop-link.all.items c.loop-link.link-index (omega (arith, c.loop-link-test.false))) ∙ c.loop-link.invariant.joined
