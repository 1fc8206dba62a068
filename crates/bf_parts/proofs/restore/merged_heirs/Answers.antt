use Rattle.std.proofs.Common.{ap, ◌∙◌, take, drop}
use Rattle.std.proofs.lemmas.List.Elements.{All-drop, All-same}
use Rattle.bf_program.specs.Restores.{heir_of}
use Rattle.bf_parts.proofs.MergeSteps.{merge_done}
use Rattle.bf_parts.proofs.restore.merged_heirs.Goals as goal

pub loop-item-preserved : goal.loop-item-preserved
loop-item-preserved g c = record {
  so_far = merge_done g.T.Linked.kind.first (g.T.Linked.kind.remap (λ owner. heir_of c.args.homes c.args.live c.args.shift owner)) c.args.own.now c.loop-item.item-index
      c.item-item.result c.in_ok-with_heirs.field-0 c.loop-item.rest.now c.split_at.result.0.now c.split_at.result.1.now c.loop-item.all.items _ _ _
      c.loop-item-test.true c.item-item.is
      (c.split_at.ensures.front ∙ ap (λ n. take n c.loop-item.rest.now) c.passed.ensures.passed)
      (c.split_at.ensures.back ∙ ap (λ n. drop n c.loop-item.rest.now) c.passed.ensures.passed)
      (c.in_ok-append_heirs.ensures {u = tt}) (c.in_ok-with_heirs.ensures {u = tt}) c.in_ok-push.ensures.items c.loop-item.invariant.so_far;
  among = All-same (g.T.Linked.is_among c.args.homes) _ _ c.split_at.ensures.back (All-drop (g.T.Linked.is_among c.args.homes) c.passed.result c.loop-item.rest.now c.loop-item.invariant.among);
}
