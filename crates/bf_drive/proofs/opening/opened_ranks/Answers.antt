use Rattle.std.proofs.Common.{◌∷◌, ◌++◌, [], length, arith, ap, ◌∙◌, length-append}
use Rattle.bf_drive.proofs.OpeningLemmas.{opened_from, opened_none, opened_more, opened_all, all_opened}
use Rattle.bf_drive.proofs.opening.opened_ranks.Goals as goal

pub loop-local-init : goal.loop-local-init
loop-local-init g c =
    let none = c.new-ranks.ensures.items in
    let all = c.into_iter-local-iterator.ensures.into_iter_gives.0 in
    record {
      made = opened_none c.args.epoch.now c.new-ranks.result.items c.args.locals.items c.into_iter-local-iterator.result.rest.items none all;
      count = omega (arith, ap length none, ap length all);
    }

pub overflow_cast-rank : goal.overflow_cast-rank
overflow_cast-rank g c = omega (arith, c.len-rank.ensures, c.loop-local.ranks.ok.0, c.loop-local.invariant.count, c.requires.few)

pub loop-local-preserved : goal.loop-local-preserved
loop-local-preserved g c =
    let view = c.new.result in
    let next = c.in-Some.ensures.steps in
    record {
      made = ap (λ ranks. ranks ++ opened_from c.args.epoch.now (length ranks) c.next.new.self.rest.items) c.in_ok-push.ensures.items
          ∙ opened_more c.args.epoch.now c.loop-local.ranks.items c.args.locals.items c.loop-local.local-iterator.rest.items c.in-Some.local c.next.new.self.rest.items view
          c.len-rank.result c.loop-local.invariant.made next.0 (c.len-rank.ensures ∙ c.loop-local.ranks.ok.0) c.new.ensures.view;
      count = omega (arith, ap length c.in_ok-push.ensures.items, length-append c.loop-local.ranks.items (view ∷ []), ap length next.0, c.loop-local.invariant.count);
    }

pub returns : goal.returns
returns g c = record {
  at = λ setup is begins.
      let laws = g.met.P.RankProgram.lawful setup in
      all_opened g.P.RankProgram.meanings g.P.RankProgram.good setup laws.goods laws.saves c.loop-local.ranks.items c.args.locals.items c.args.epoch.now
      (opened_all c.args.epoch.now c.loop-local.ranks.items c.args.locals.items c.loop-local.local-iterator.rest.items c.loop-local.invariant.made
      (omega (arith, c.in-None.ensures.steps.0, c.loop-local.local-iterator.rest.ok.0)))
      is begins;
}
