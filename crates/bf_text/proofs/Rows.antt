-- Worked rows of the reading, computed from the definitions.
use Rattle.std.proofs.Common.{◌≡◌, ℕ, ◌<◌, length, List, [], ◌∷◌, ◌++◌, take, drop, ◌-◌, refl, Ok, Err}
use Rattle.std.specs.Prelude.{codes, flat_map, slice_set}
use Rattle.bf_case.specs.Rows.{smallest, box}
use Rattle.bf_text.specs.declared.code.Code.TheVariants as code
use Rattle.std.proofs.lemmas.Bool.{lt-ltb}
use Rattle.bf_text.specs.Reading.{input_limit, reading_after, refusal, reading}

-- ---- texts

abbrev base : List (List ℕ)
base =
    codes "forest 1" ∷ codes "roots 1 1 1" ∷ codes "side 2" ∷ codes "levels 0" ∷ codes "ranks 1" ∷ codes "steps 0"
    ∷ codes "snapshot 1" ∷ codes "regrid 0" ∷ codes "refine 4294967295" ∷ codes "coarsen 0" ∷ codes "flow 0"
    ∷ codes "turns 0" ∷ codes "shift 0" ∷ codes "end" ∷ []

abbrev text : List (List ℕ) → List ℕ
text lines = flat_map (λ line. line ++ 10 ∷ []) lines

-- the base with another line in place of one, counted from 1
abbrev changed : ℕ → List ℕ → List ℕ
changed number line = text (slice_set base (number - 1) line)

-- the base's first lines, and then these
abbrev ending : List (List ℕ) → List ℕ
ending lines = text (take 13 base ++ lines)

-- ---- rows

-- the base is a case
pub base_is_read : reading (text base) ≡ Ok (smallest)
unfolding reading_after
base_is_read = refl

-- the limit to coarsen is above the limit to refine
pub crossed_limits : reading (text (slice_set (slice_set base 8 (codes "refine 10")) 9 (codes "coarsen 11"))) ≡ Err (refusal 10 code.Crossed)
unfolding reading_after
crossed_limits = refl

-- a domain with too many cells
pub too_many_cells : reading (text (slice_set (slice_set base 1 (codes "roots 16 16 16")) 2 (codes "side 16"))) ≡ Err (refusal 4 code.TooManyCells)
unfolding reading_after
too_many_cells = refl

-- one rank dies twice
pub a_rank_dies_twice : reading (ending (codes "die 0 1" ∷ codes "die 0 1" ∷ codes "end" ∷ [])) ≡ Err (refusal 15 code.DieTwice)
unfolding reading_after
a_rank_dies_twice = refl

-- the end is missing
pub no_end : reading (ending []) ≡ Err (refusal 14 code.NoEnd)
unfolding reading_after
no_end = refl

-- an empty input
pub nothing : reading ([]) ≡ Err (refusal 1 code.NoEnd)
unfolding reading_after
nothing = refl

-- a side is odd
pub an_odd_side : reading (changed 3 (codes "side 3")) ≡ Err (refusal 3 code.OutOfRange)
unfolding reading_after
an_odd_side = refl

-- a word is no number
pub no_number : reading (changed 3 (codes "side 2x")) ≡ Err (refusal 3 code.BadNumber)
unfolding reading_after
no_number = refl

-- a key is left out
pub a_key_is_missing : reading (text (take 3 base ++ drop 4 base)) ≡ Err (refusal 4 code.Missing)
unfolding reading_after
a_key_is_missing = refl

-- a key comes again
pub a_key_comes_again : reading (ending (codes "side 2" ∷ codes "end" ∷ [])) ≡ Err (refusal 14 code.Repeated)
unfolding reading_after
a_key_comes_again = refl

-- a fill ends outside
pub a_fill_outside : reading (ending (codes "fill 0 0 0 2 0 0 1" ∷ codes "end" ∷ [])) ≡ Err (refusal 14 code.FillOutside)
unfolding reading_after
a_fill_outside = refl

-- the rank that dies is none
pub no_rank_dies : reading (ending (codes "die 1 0" ∷ codes "end" ∷ [])) ≡ Err (refusal 14 code.DieRank)
unfolding reading_after
no_rank_dies = refl

-- a rank of the order is none
pub no_rank_of_the_order : reading (ending (codes "order 0 1" ∷ codes "end" ∷ [])) ≡ Err (refusal 14 code.OrderRank)
unfolding reading_after
no_rank_of_the_order = refl

-- the end comes twice
pub words_after_the_end : reading (ending (codes "end" ∷ codes "end" ∷ [])) ≡ Err (refusal 15 code.AfterEnd)
unfolding reading_after
words_after_the_end = refl

-- a header without its number, and without a line feed
pub a_lone_word : reading (codes "forest") ≡ Err (refusal 1 code.BadHeader)
unfolding reading_after
a_lone_word = refl

-- a header without a line feed
pub only_a_header : reading (codes "forest 1") ≡ Err (refusal 2 code.NoEnd)
unfolding reading_after
only_a_header = refl

-- too few numbers
pub two_roots : reading (codes "forest 1\nroots 1 1") ≡ Err (refusal 2 code.BadLine)
unfolding reading_after
two_roots = refl

-- a word that begins like a key
pub a_word_of_no_form : reading (codes "forest 1\nsid") ≡ Err (refusal 2 code.BadLine)
unfolding reading_after
a_word_of_no_form = refl

-- a key that comes too soon, and without its number
pub a_bare_key_too_soon : reading (codes "forest 1\nside") ≡ Err (refusal 2 code.Missing)
unfolding reading_after
a_bare_key_too_soon = refl

-- a byte that is no text
pub a_zero_byte : reading (changed 6 (codes "steps 0" ++ 0 ∷ [])) ≡ Err (refusal 6 code.NotText)
unfolding reading_after
a_zero_byte = refl

-- a front of the last word
pub a_short_end : reading (changed 14 (codes "en")) ≡ Err (refusal 14 code.BadLine)
unfolding reading_after
a_short_end = refl

-- twenty digits, above 64 bits
pub a_large_number : reading (changed 6 (codes "steps 18446744073709551616")) ≡ Err (refusal 6 code.OutOfRange)
unfolding reading_after
a_large_number = refl

-- twenty-one digits
pub a_long_number : reading (changed 6 (codes "steps 000000000000000000000")) ≡ Err (refusal 6 code.BadNumber)
unfolding reading_after
a_long_number = refl

-- zeros lead the number of the header
pub a_header_with_zeros : reading (changed 1 (codes "forest 01")) ≡ Err (refusal 1 code.BadHeader)
unfolding reading_after
a_header_with_zeros = refl

-- a second header
pub a_second_header : reading (ending (codes "forest 1" ∷ codes "end" ∷ [])) ≡ Err (refusal 14 code.Repeated)
unfolding reading_after
a_second_header = refl

-- one carriage return is dropped, and no second
pub two_returns : reading (changed 6 (codes "steps 0" ++ 13 ∷ 13 ∷ [])) ≡ Err (refusal 6 code.NotText)
unfolding reading_after
two_returns = refl

-- a carriage return before a comment is no end of a line
pub a_return_before_a_comment : reading (changed 6 (codes "steps 0" ++ (13 ∷ codes "# none"))) ≡ Err (refusal 6 code.NotText)
unfolding reading_after
a_return_before_a_comment = refl

-- a comment may have any byte
pub a_comment_of_any_bytes : reading (changed 6 (codes "steps 0 #" ++ (128 ∷ 255 ∷ 0 ∷ []))) ≡ Ok (smallest)
unfolding reading_after
a_comment_of_any_bytes = refl

-- the last line feed may be left out
pub no_last_feed : reading (text (take 13 base) ++ codes "end") ≡ Ok (smallest)
unfolding reading_after
no_last_feed = refl

-- carriage returns, blank lines, tabs, comments and zeros that lead
pub returns_blanks_and_comments : reading (text ((codes "# first" ++ 13 ∷ []) ∷ [] ∷ (codes "forest 1" ++ 13 ∷ []) ∷ (9 ∷ 32 ∷ 13 ∷ []) ∷ codes "roots 01  1\t1" ∷ take 3 (drop 2 base) ++ ((codes "steps 00000000000000000000 # none" ∷ []) ++ drop 6 base))) ≡ Ok (smallest)
unfolding reading_after
returns_blanks_and_comments = refl

-- deaths come by rank, orders one after the other, fills as they came
pub deaths_by_rank : reading (text (take 4 base ++ (codes "ranks 3" ∷ take 8 (drop 5 base)) ++ (codes "die 2 7" ∷ codes "order 1 0" ∷ codes "fill 0 0 0 1 1 1 8" ∷ codes "die 0 9" ∷ codes "order 2" ∷ codes "fill 1 0 0 1 0 0 5" ∷ codes "end" ∷ []))) ≡ Ok (record smallest { ranks = 3; fills = box (0 ∷ 0 ∷ 0 ∷ []) (1 ∷ 1 ∷ 1 ∷ []) 8 ∷ box (1 ∷ 0 ∷ 0 ∷ []) (1 ∷ 0 ∷ 0 ∷ []) 5 ∷ []; dies = (0, 9) ∷ (2, 7) ∷ []; order = 1 ∷ 0 ∷ 2 ∷ [] })
unfolding reading_after
deaths_by_rank = refl

-- an input above the limit is refused as a whole, whatever its lines are
pub too_long : (bytes : List ℕ) → input_limit < length bytes → reading bytes ≡ Err (refusal 0 code.TooLong)
too_long bytes long = rw (lt-ltb input_limit (length bytes) long) refl
