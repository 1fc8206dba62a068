use Rattle.std.proofs.Common.{◌≡◌, ◌++◌, true, map, length}
use Rattle.std.specs.List.{list_all}
use Rattle.std.specs.Str.Parse.{digits_value}
use Rattle.bf_text.specs.Lines.{words_of}
use Rattle.bf_text.specs.Forms.{word_range, is_within}
use Rattle.bf_text.specs.Entries.{is_number}
use Rattle.bf_text.proofs.numbers.read_numbers.Given as goal

abbrev pub invariant-loop-word : goal.invariant-loop-word
invariant-loop-word l = record {
  are_numbers : list_all is_number (words_of l.rest) ≡ true;
  small : list_all (is_within word_range) (map (digits_value 10) (words_of l.rest)) ≡ list_all (is_within word_range) (map (digits_value 10) (words_of l.fn.bytes));
  read : l.numbers.items ++ map (digits_value 10) (words_of l.rest) ≡ map (digits_value 10) (words_of l.fn.bytes);
}

abbrev pub decreases-loop-word : goal.decreases-loop-word
decreases-loop-word l = length l.rest
