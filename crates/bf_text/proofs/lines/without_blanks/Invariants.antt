use Rattle.std.proofs.Common.{◌≡◌, ◌≤◌, length}
use Rattle.bf_text.specs.Lines.{words_of}
use Rattle.bf_text.proofs.lines.without_blanks.Given as goal

abbrev pub invariant-loop-rest : goal.invariant-loop-rest
invariant-loop-rest l = record { words : words_of l.rest ≡ words_of l.fn.bytes; shorter : length l.rest ≤ length l.fn.bytes }

abbrev pub decreases-loop-rest : goal.decreases-loop-rest
decreases-loop-rest l = length l.rest
