use Rattle.std.proofs.Common.{◌≡◌, ◌∙◌, Bool, true, false, not, refl, sym}
use Rattle.bf_marks.proofs.ChosenLemmas.{none_set}
use Rattle.bf_marks.proofs.flags.Flags.is_unset.Goals as goal

not_set : (some : Bool) → not some ≡ true → some ≡ false
not_set true holds = absurd (cc)
not_set false holds = refl

pub returns : goal.returns
returns c holds leaves = none_set leaves c.args.self.now.own.items (sym c.args.self.now.told ∙ not_set c.args.self.now.some holds)
