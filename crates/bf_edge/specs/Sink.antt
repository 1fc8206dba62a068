-- The bytes that a sink has taken: `Some` of them where they are told, `None` at a real output.
use Rattle.std.specs.Prelude.{◌≡◌, ℕ, ◌≤◌, List, ◌++◌, length, take, Option}
use Rattle.std.specs.Option.{option_map}

-- what was written, and then these bytes; what is untold stays untold
abbrev pub appended : Option (List ℕ) → List ℕ → Option (List ℕ)
appended written bytes = option_map (λ taken. taken ++ bytes) written

-- the first bytes of a text were appended, maybe none and maybe all, and nothing else
pub record AppendsPrefix (old new : Option (List ℕ)) (bytes : List ℕ) : Type 0 where
  pub count : ℕ
  pub within : count ≤ length bytes
  pub written : new ≡ appended old (take count bytes)
