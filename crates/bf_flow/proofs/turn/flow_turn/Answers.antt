use Rattle.std.proofs.Common.{rules, ◌≡◌, slice_index_or, w64, pos, ◌+ℤ◌, FitsSigned, to_z, of_z, arith, ◌∙◌}
use Rattle.std.proofs.lemmas.Int.{ints, to_z-of_z}
use Rattle.std.proofs.lemmas.List.Sums.{fold_more}
use Rattle.bf_flow.specs.Flows.{IsFlow}
use Rattle.bf_flow.proofs.TurnLemmas.{flow_kept, flow_step}
use Rattle.bf_flow.proofs.turn.flow_turn.Goals as goal

pub overflow_add-flows : goal.overflow_add-flows
overflow_add-flows c =
    let within : IsFlow (slice_index_or c.args.flows.now c.loop-place.place (pos 0)) = c.requires.flows c.loop-place.place (pos 0) (omega arith) in
    let kept : slice_index_or c.loop-place.flows c.loop-place.place (pos 0) ≡ slice_index_or c.args.flows.now c.loop-place.place (pos 0) =
    grind (arith, to_z-of_z, flow_kept) in
    grind (arith, ints, to_z-of_z)

pub loop-place-preserved : goal.loop-place-preserved
loop-place-preserved c =
    let fits : FitsSigned w64 (slice_index_or c.loop-place.flows c.loop-place.place (pos 0)) = search rules in
    let sum_fits : FitsSigned w64 (to_z w64 (of_z w64 (slice_index_or c.loop-place.flows c.loop-place.place (pos 0))) +ℤ to_z w64 (of_z w64 c.amount_to-amount.result)) = overflow_add-flows c in (
      flow_step _ _ _ _ _ _ _ _ _ c.requires.lengths c.loop-place-test.true c.loop-place.invariant.0 c.amount_to-amount.ensures.amount
          (to_z-of_z w64 _ sum_fits ∙ omega (arith, ints)),
      grind (arith, ints, to_z-of_z, fold_more),
      omega (arith, ints),
      omega (arith, ints),
    )
