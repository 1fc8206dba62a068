use Rattle.std.proofs.Common.{refl, sym, subst}
use Rattle.bf_text.specs.Drafts.{known_in, entry_in, IsFaultOf}
use Rattle.bf_text.proofs.FitLemmas.{large_cause}
use Rattle.bf_text.proofs.draft.Draft.take_entry.Goals as goal

pub returns-in_default-found-clause-err : goal.returns-in_default-found-clause-err
returns-in_default-found-clause-err c =
    let known = known_in c.args.self.now.outline in
    let e = entry_in c.args.line c.args.content.now c.args.form c.args.arguments.now in
    let large = rw c.in_default-found.is at c.in-Ok.ensures in
    subst (IsFaultOf known e) (sym c.refused-in_default-found.ensures)
    (large_cause known e (sym c.in_default.ensures.exact) c.in_default.ensures.count large, refl)
