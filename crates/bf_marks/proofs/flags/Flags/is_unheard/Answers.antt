use Rattle.std.proofs.lemmas.List.{nil_from_length}
use Rattle.bf_marks.proofs.flags.Flags.is_unheard.Goals as goal

pub returns : goal.returns
returns c holds = nil_from_length c.args.self.now.heard.keys (c.is_empty.ensures.0 holds)
