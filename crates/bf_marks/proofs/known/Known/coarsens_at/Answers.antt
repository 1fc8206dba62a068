use Rattle.std.proofs.Common.{refl}
use Rattle.bf_marks.specs.Marks.{MarksValue}
use Rattle.bf_marks.proofs.KnownLemmas.{flag_there}
use Rattle.bf_marks.proofs.known.Known.coarsens_at.Goals as goal

pub returns : goal.returns
returns c =
    let k = c.self.inside in
    flag_there k c.args.self.now (λ (m : MarksValue). m.coarser) k.coarser.items c.args.place c.index.result.now c.self.view_is c.self.invariant refl c.self.invariant.coarser c.requires c.index.ensures
