use Rattle.bf_mark_rounds.proofs.KeepLemmas.{leaves_stay}
use Rattle.bf_mark_rounds.proofs.laws.marking_keeps_all_items.Goals as goal

pub returns : goal.returns
returns c = λ levels its leaves coarser. leaves_stay its leaves coarser levels
