use Rattle.std.proofs.Common.{◌≡◌, ◌∷◌, ◌++◌, List, length, map, take, drop}
use Rattle.std.specs.Vec.Iter.{into_iter_items}
use Rattle.bf_block.specs.declared.cargo.Cargo.{Cargo}
use Rattle.bf_block.specs.declared.cargo.Cargo.TheVariants.{Piece}
use Rattle.bf_block.specs.Eighth.{EighthValue}
use Rattle.bf_migrate.proofs.assembling.octet.Given as goal

abbrev pub invariant-loop : goal.invariant-loop
invariant-loop l = (more : List EighthValue) (rest : List Cargo) → length more ≡ 7 → into_iter_items l.fn.cargo ≡ map Piece more ++ rest
    → (l.parts.items ≡ l.fn.first ∷ take l.counter more) × (into_iter_items l.cargo ≡ map Piece (drop l.counter more) ++ rest)
