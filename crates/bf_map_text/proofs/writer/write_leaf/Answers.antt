use Rattle.bf_edge.proofs.SheetLemmas.{prints_whole}
use Rattle.bf_map_text.proofs.writer.write_leaf.Goals as goal

pub returns : goal.returns
returns g c =
    let done = prints_whole c.finish.result c.new-sheet.ensures c.print_leaf.ensures c.finish.ensures.printed c.finish.ensures.all c.finish.ensures.failed in
    record { all = done.all; steady = done.steady; rose = done.rose; prefix = done.prefix; never_falls = done.never_falls }
