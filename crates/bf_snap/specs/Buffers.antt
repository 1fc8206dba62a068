-- The two sides of a rank's snapshots, and what each call makes of them.
use Rattle.std.specs.Prelude.{ℕ, List}
use Rattle.bf_parts.specs.declared.side.Side.{Side}
use Rattle.bf_parts.specs.Sides.{bare}

-- the agreed side, and that of the new snapshot
pub record TwoSides (I : Type 0) : Type 0 where
  pub active : Side I
  pub spare : Side I

-- once the predecessor's part is heard
abbrev pub heard : {I : Type 0} → (part : List I) → TwoSides I → TwoSides I
heard part sides = record sides { spare = record sides.spare { other = part } }

-- once the own part is written, with the time and the homes of its snapshot, and the home whose part was heard
abbrev pub written : {I : Type 0} → (time : ℕ) → (homes : List ℕ) → (source : ℕ) → (own : List I) → TwoSides I → TwoSides I
written time homes source own sides = record sides { spare = record { time = time; homes = homes; source = source; own = own; other = sides.spare.other } }

-- without the new snapshot
abbrev pub cleared : {I : Type 0} → TwoSides I → TwoSides I
cleared sides = record sides { spare = bare }

-- once the new snapshot is the agreed one
abbrev pub swapped : {I : Type 0} → TwoSides I → TwoSides I
swapped sides = record { active = sides.spare; spare = bare }
