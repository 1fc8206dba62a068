-- The bytes that a source still gives: `Some` of them where they are told, `None` at a real input.
use Rattle.std.specs.Prelude.{◌≡◌, ℕ, ◌≤◌, List, [], take, drop, Option, IfSome}
use Rattle.std.specs.Option.{option_map}

-- what is left once the first n bytes are gone; what is untold stays untold
abbrev pub left_after : Option (List ℕ) → ℕ → Option (List ℕ)
left_after left n = option_map (drop n) left

-- where told, the first n bytes of `into` are the first n that were left
abbrev pub Gives : Option (List ℕ) → ℕ → List ℕ → Type 0
Gives left n into = IfSome left (λ bytes. take n into ≡ take n bytes)

-- where told, `taken` is all that was left, or its first `most` bytes where there were more
abbrev pub GivesUpTo : Option (List ℕ) → ℕ → List ℕ → Type 0
GivesUpTo left most taken = IfSome left (λ bytes. taken ≡ take most bytes)

-- where told, nothing is left
abbrev pub IsAtEnd : Option (List ℕ) → Type 0
IsAtEnd left = IfSome left (λ bytes. bytes ≡ [])

-- some of the first `most` bytes are gone, from the front, and no others
pub record Passes (old new : Option (List ℕ)) (most : ℕ) : Type 0 where
  pub count : ℕ
  pub within : count ≤ most
  pub rest : new ≡ left_after old count
