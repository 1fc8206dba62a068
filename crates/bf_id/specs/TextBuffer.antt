-- How the text of an id is kept: in the front of a buffer.
use Rattle.std.specs.Prelude.{ℕ, ◌≤◌, List}
use Rattle.std.specs.Str.{IsAscii}

-- the text, and its length within a buffer of 15 bytes
pub record IsKept (text : List ℕ) (len : ℕ) : Type 0 where
  pub fits : len ≤ 15
  pub ascii : IsAscii text
