use Rattle.std.proofs.Common.{◌+◌, sym}
use Rattle.std.proofs.lemmas.List.{take_rest}
use Rattle.bf_text.proofs.LineLemmas.{some_bytes, word_found, word_whole}
use Rattle.bf_text.proofs.lines.first_word.Goals as goal

pub returns-in-Some-clause-words : goal.returns-in-Some-clause-words
returns-in-Some-clause-words c =
    rw (take_rest c.args.bytes.now (c.in-Some.end + 1))
    (word_found c.args.bytes.now c.in-Some.end c.requires (some_bytes c.args.bytes.now c.if-is_empty.ensures) (sym c.in-Some.ensures))

pub returns-in-None-clause-words : goal.returns-in-None-clause-words
returns-in-None-clause-words c = word_whole c.args.bytes.now (some_bytes c.args.bytes.now c.if-is_empty.ensures) (sym c.in-None.ensures)
