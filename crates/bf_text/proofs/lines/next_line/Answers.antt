use Rattle.std.proofs.Common.{◌+◌, sym}
use Rattle.std.proofs.lemmas.List.{take_rest}
use Rattle.bf_text.proofs.LineLemmas.{some_bytes, line_found, line_whole}
use Rattle.bf_text.proofs.lines.next_line.Goals as goal

pub returns-in-Some-clause-lines : goal.returns-in-Some-clause-lines
returns-in-Some-clause-lines c =
    rw (take_rest c.args.bytes.now (c.in-Some.end + 1)) (line_found c.args.bytes.now c.in-Some.end (sym c.in-Some.ensures))

pub returns-in-None-clause-lines : goal.returns-in-None-clause-lines
returns-in-None-clause-lines c = line_whole c.args.bytes.now (some_bytes c.args.bytes.now c.if-is_empty.ensures) (sym c.in-None.ensures)
