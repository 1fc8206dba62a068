use Rattle.std.proofs.Common.{rules, ◌==◌, ◌∙◌, ap, filter}
use Rattle.std.proofs.lemmas.Fn.{filter_same}
use Rattle.bf_id.specs.Id.{level_of, BlockId}
use Rattle.bf_mark_rounds.proofs.telling.level_told.Goals as goal

pub returns : goal.returns
returns c = λ rank links to.
    c.of.ensures
    ∙ filter_same _ (λ (i : BlockId). level_of i == c.args.level) _ (λ x b f' k. search rules) _ _ c.retain.ensures.filtered
    ∙ ap (filter (λ (i : BlockId). level_of i == c.args.level)) c.in_ok-told.ensures
