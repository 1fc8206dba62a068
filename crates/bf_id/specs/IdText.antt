-- The text of an id, which is its one spelling.
use Rattle.std.specs.Prelude.{ℕ, ◌+◌, List, [], ◌∷◌, ◌++◌, map, decimal}
use Rattle.bf_id.specs.Id.{BlockId}

-- nothing for a root; else a full stop and a digit for each octant
abbrev pub octants_text : List ℕ → List ℕ
octants_text [] = []
octants_text (octant ∷ octants) = 46 ∷ map (λ o. 48 + o) (octant ∷ octants)

-- the root in decimal, and then the octants
abbrev pub text_of : BlockId → List ℕ
text_of i = decimal i.root ++ octants_text i.digits
