use Rattle.std.proofs.Common.{◌≡◌, ◌+◌, ◌≤◌, length}
use Rattle.bf_text.specs.Lines.{words_of}
use Rattle.bf_text.proofs.numbers.count_words.Given as goal

abbrev pub invariant-loop-word : goal.invariant-loop-word
invariant-loop-word l = record {
  counted : l.count + length (words_of l.rest) ≡ length (words_of l.fn.bytes);
  few : l.count + length l.rest ≤ length l.fn.bytes;
}

abbrev pub decreases-loop-word : goal.decreases-loop-word
decreases-loop-word l = length l.rest
