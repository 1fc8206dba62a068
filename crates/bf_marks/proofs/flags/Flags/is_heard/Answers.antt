use Rattle.std.proofs.Common.{◌∙◌}
use Rattle.bf_marks.proofs.SearchLemmas.{among_keys}
use Rattle.bf_marks.proofs.flags.Flags.is_heard.Goals as goal

pub returns : goal.returns
returns c = c.contains.ensures ∙ among_keys c.args.self.now.heard.keys c.args.id
