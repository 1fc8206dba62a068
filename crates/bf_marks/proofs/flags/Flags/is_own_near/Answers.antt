use Rattle.std.proofs.Common.{◌≡◌, ◌∙◌, get_or, sym}
use Rattle.bf_marks.proofs.ChosenLemmas.{flag_at, get_same}
use Rattle.bf_marks.proofs.flags.Flags.is_own_near.Goals as goal

pub returns-then-eq : goal.returns-then-eq
returns-then-eq c =
    let leaves = c.args.leaves.now in
    let found = c.index-leaves-place.result in
    let same : found ≡ c.args.id = c.eq.ensures.same.0 c.if-eq.true in
    let here : get_or leaves c.args.place c.args.id ≡ c.args.id =
    get_same leaves c.args.place c.args.id found c.if-place-leaves.true ∙ sym c.index-leaves-place.is ∙ same in
    flag_at leaves c.args.self.now.own.items c.args.place c.args.id c.index.result.now c.requires.rising c.requires.aligned c.if-place-leaves.true here (sym c.index.ensures)
