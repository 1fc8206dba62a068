-- The causes of refusals: their numbers, and the order in which they are tried on one line.
use Rattle.std.specs.Prelude.{ℕ, List, [], ◌∷◌}
use Rattle.bf_text.specs.declared.code.Code.{Code}
use Rattle.bf_text.specs.declared.code.Code.TheVariants as code

-- the number by which a cause is told
abbrev pub number_of : Code → ℕ
number_of code.NotText = 1
number_of code.TooLong = 2
number_of code.BadHeader = 3
number_of code.BadLine = 4
number_of code.BadNumber = 5
number_of code.OutOfRange = 6
number_of code.Missing = 7
number_of code.Repeated = 8
number_of code.TooManyCells = 9
number_of code.Crossed = 10
number_of code.FillOutside = 11
number_of code.DieRank = 12
number_of code.DieTwice = 13
number_of code.OrderRank = 14
number_of code.AfterEnd = 15
number_of code.NoEnd = 16

-- the causes that a line can have, the one that counts most first: those that hold of any words,
-- and those that are told of the numbers
abbrev pub word_codes : List Code
word_codes = code.NotText ∷ code.BadHeader ∷ code.AfterEnd ∷ code.Missing ∷ code.Repeated ∷ code.BadLine ∷ code.BadNumber ∷ []

-- those that are told of the numbers by the case so far
abbrev pub case_codes : List Code
case_codes = code.TooManyCells ∷ code.Crossed ∷ code.FillOutside ∷ code.DieRank ∷ code.DieTwice ∷ code.OrderRank ∷ []

abbrev pub number_codes : List Code
number_codes = code.OutOfRange ∷ case_codes
