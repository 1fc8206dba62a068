-- The lines of an input, and the words of a line.
use Rattle.std.specs.Prelude.{◌≡◌, false, ℕ, ◌==◌, nat_le, Bool, not, ◌&&◌, ◌||◌, length, List, [], ◌∷◌}
use Rattle.std.specs.List.{slice_split, filter, before_first}
use Rattle.std.specs.Str.Lines.{strip_carriage_return}

-- a line feed, which ends a line
abbrev pub is_feed : ℕ → Bool
is_feed b = b == 10

-- `#`, from which on a line is a comment
abbrev pub is_hash : ℕ → Bool
is_hash b = b == 35

-- a blank or a tab
abbrev pub is_blank : ℕ → Bool
is_blank b = (b == 32) || (b == 9)

-- a byte that may stand outside of comments: a tab, or a printable one
abbrev pub is_plain : ℕ → Bool
is_plain b = (b == 9) || (nat_le 32 b && nat_le b 126)

-- without a last part that is empty: what follows the last line feed is a line only where there is something
abbrev pub without_empty_end : List (List ℕ) → List (List ℕ)
without_empty_end [] = []
without_empty_end ([] ∷ []) = []
without_empty_end (part ∷ parts) = part ∷ without_empty_end parts

-- the lines, without the line feeds that end them
abbrev pub lines_of : List ℕ → List (List ℕ)
lines_of bytes = without_empty_end (slice_split is_feed bytes)

-- a line without the one carriage return at its very end, and then without its comment
abbrev pub content_of : List ℕ → List ℕ
content_of line = before_first is_hash (strip_carriage_return line)

-- there is something in it
abbrev pub is_some_word : List ℕ → Bool
is_some_word word = not (length word == 0)

-- the words, which blanks and tabs part
abbrev pub words_of : List ℕ → List (List ℕ)
words_of content = filter is_some_word (slice_split is_blank content)

-- no blank stands in front
abbrev pub BeginsWord : List ℕ → Type 0
BeginsWord [] = Unit {0}
BeginsWord (b ∷ bytes) = is_blank b ≡ false
