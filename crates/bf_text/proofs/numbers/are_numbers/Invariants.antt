use Rattle.std.proofs.Common.{◌≡◌, length}
use Rattle.std.specs.List.{list_all}
use Rattle.bf_text.specs.Lines.{words_of}
use Rattle.bf_text.specs.Entries.{is_number}
use Rattle.bf_text.proofs.numbers.are_numbers.Given as goal

abbrev pub invariant-loop-word : goal.invariant-loop-word
invariant-loop-word l = list_all is_number (words_of l.rest) ≡ list_all is_number (words_of l.fn.bytes)

abbrev pub decreases-loop-word : goal.decreases-loop-word
decreases-loop-word l = length l.rest
