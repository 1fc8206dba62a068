-- A rank's side of a snapshot, and who has a copy of whose part.
use Rattle.std.specs.Prelude.{ℕ, ◌==◌, Bool, ◌&&◌, ◌||◌, not, List, [], length, if◌then◌else◌}
use Rattle.bf_buddy.specs.Members.{is_member}
use Rattle.bf_buddy.specs.Buddy.{buddy_of, predecessor_of}
use Rattle.bf_parts.specs.declared.side.Side.{Side}

-- a side without a snapshot
abbrev pub bare : {I : Type 0} → Side I
bare = record { time = 0; homes = []; source = 0; own = []; other = [] }

-- whether a rank is the buddy of another, which is a member
unfoldable pub gives : (members : List ℕ) → (shift from to : ℕ) → Bool
gives members shift from to = is_member members from && (buddy_of members from shift == to)

-- the member whose part a rank has beside its own; a stranger names itself
unfoldable pub source_of : (members : List ℕ) → (shift rank : ℕ) → ℕ
source_of members shift rank = if is_member members rank then predecessor_of members rank shift else rank

abbrev pub has_items : {I : Type 0} → List I → Bool
has_items items = not (length items == 0)

-- a home's part of the snapshot, as a rank has it that has this side
abbrev pub saved_of : {I : Type 0} → Side I → (rank home : ℕ) → List I
saved_of side rank home = if rank == home then side.own else (if side.source == home then side.other else [])

-- whether a restore gives a home's part, with an item, to a rank that has this side
abbrev pub is_given : {I : Type 0} → Side I → (rank : ℕ) → (live : List ℕ) → (home : ℕ) → Bool
is_given side rank live home =
    (rank == home && has_items side.own) || (side.source == home && (has_items side.other && not (is_member live side.source)))
