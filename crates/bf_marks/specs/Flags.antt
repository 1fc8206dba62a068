-- Flags of leaves.
use Rattle.std.specs.Prelude.{◌||◌, Bool, List, [], filter, map}
use Rattle.std.specs.List.{zip}
use Rattle.std.specs.BTreeSet.{insert_key}
use Rattle.bf_id.specs.Id.{BlockId, id_cmp}
use Rattle.bf_case.specs.Refinement.{is_among}

-- the leaves that have a flag: own ones, and linked ones of which it was heard, both by rising id
pub record Flagged : Type 0 where
  pub own : List BlockId
  pub heard : List BlockId

-- no leaf has the flag
abbrev pub unflagged : Flagged
unflagged = record { own = []; heard = [] }

-- whether a leaf has the flag, as far as is known
abbrev pub is_flagged : Flagged → BlockId → Bool
is_flagged flagged i = is_among flagged.own i || is_among flagged.heard i

-- the flag was heard of one leaf more
abbrev pub heard_of : BlockId → Flagged → Flagged
heard_of i flagged = record flagged { heard = insert_key id_cmp flagged.heard i }

-- the leaves that pass a test, where something else stands beside each by which they are tested too
abbrev pub chosen : {X : Type 0} → (test : BlockId → X → Bool) → (leaves : List BlockId) → (beside : List X) → List BlockId
chosen {X} test leaves beside = map (λ (leaf : BlockId × X). leaf.0) (filter (λ (leaf : BlockId × X). test leaf.0 leaf.1) (zip leaves beside))
