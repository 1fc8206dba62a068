-- The two parts of an id's text: what stands before the full stop, and what follows it.
use Rattle.std.specs.Prelude.{◌≡◌, ◌≢◌, ℕ, ◌+◌, List, [], map, length, decimal, slice_index}
use Rattle.bf_id.specs.Id.{BlockId}

-- the digits of octants
abbrev pub octant_digits : List ℕ → List ℕ
octant_digits octants = map (λ o. 48 + o) octants

-- no plus sign stands in front, and no zero before another digit
pub record IsPlain (text : List ℕ) : Type 0 where
  pub unsigned : slice_index text 0 ≢ 43
  pub lone_zero : slice_index text 0 ≡ 48 → length text ≡ 1

-- the parts are those of this id's text, and it is no root
pub record HasParts (i : BlockId) (root octants : List ℕ) : Type 0 where
  pub front : decimal i.root ≡ root
  pub back : octant_digits i.digits ≡ octants
  pub deep : i.digits ≢ []
