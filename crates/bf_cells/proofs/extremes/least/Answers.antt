use Rattle.std.proofs.Common.{rules, ◌≡◌, ◌∙◌, get_or, min}
use Rattle.std.specs.List.{fold}
use Rattle.bf_cells.proofs.SpreadLemmas.{least_from_first}
use Rattle.bf_cells.proofs.extremes.least.Goals as goal

pub returns : goal.returns
returns c =
    let values = c.args.values.now in
    let folded : c.fold.result ≡ fold min (get_or values 0 0) values = search rules in
    folded ∙ least_from_first values c.requires
