use Rattle.std.proofs.Common.{◌∙◌, ap, ltb}
use Rattle.bf_text.proofs.MissingLemmas.{missing_is}
use Rattle.bf_text.proofs.outline.Outline.is_missing.Goals as goal

pub returns : goal.returns
returns c = ap (ltb c.args.self.now.next) c.due_place.ensures ∙ missing_is c.args.form c.args.self.now.next c.requires
