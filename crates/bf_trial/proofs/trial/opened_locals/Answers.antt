use Rattle.std.proofs.Common.{◌∙◌, [], ◌∷◌, ◌++◌, map, sym, ap, arith}
use Rattle.std.specs.List.{range_with_len}
use Rattle.std.proofs.lemmas.List.FromFn.{map-range_with_len_more}
use Rattle.bf_beads.specs.Meanings.{opened}
use Rattle.bf_trial.proofs.trial.opened_locals.Goals as goal

pub loop-rank-preserved : goal.loop-rank-preserved
loop-rank-preserved c =
    let setup = c.args.setup.now in
    let made = opened setup.beads setup.ranks setup.shift in
    let rank = c.loop-rank.rank in
    c.in_ok-push.ensures.items
    ∙ ap (λ locals. locals ++ c.in_ok-opened.field-0 ∷ []) c.loop-rank.invariant
    ∙ ap (λ local. map made (range_with_len 0 rank) ++ local ∷ []) c.in_ok-opened.ensures
    ∙ sym (map-range_with_len_more made 0 rank rank (omega arith))
