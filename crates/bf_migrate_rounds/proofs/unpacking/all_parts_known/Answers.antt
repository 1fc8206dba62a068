use Rattle.std.proofs.Common.{◌≡◌, inl, inr, arith, ap, subst, ◌∙◌, get_or}
use Rattle.std.proofs.lemmas.Bool.{cases_lt}
use Rattle.std.proofs.lemmas.List.{get_or_default}
use Rattle.bf_migrate_rounds.specs.Calls.{IsKnown}
use Rattle.bf_migrate_rounds.proofs.unpacking.all_parts_known.Goals as goal

pub loop-part-preserved : goal.loop-part-preserved
loop-part-preserved c = λ k d within.
    let parts = c.args.parts.now in
    let last = c.loop-part.part-index in
    elim (cases_lt k last) [
      | inl before ↦ c.loop-part.invariant k d before
      | inr past ↦
          let same : last ≡ k = omega arith in
          subst IsKnown (c.part-item.is ∙ get_or_default parts last c.part-item.result d (omega arith) ∙ ap (λ n. get_or parts n d) same) c.known.ensures
    ]
