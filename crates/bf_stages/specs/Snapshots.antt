-- The kind of round in which each rank sends its part to its buddy and fills its spare side.
use Rattle.std.specs.Prelude.{◌≡◌, ◌≢◌, ℕ, ◌==◌, Bool, true, false, not, List, [], ◌∷◌, filter, if◌then◌else◌, Option, Some, None}
use Rattle.std.specs.List.{fold}
use Rattle.bf_program.specs.declared.epoch.Epoch.{Epoch}
use Rattle.bf_parts.specs.Sides.{bare, gives}
use Rattle.bf_rounds.specs.Courses.{Course}
use Rattle.bf_rounds.specs.Gathering.{Play, gathering}
use Rattle.bf_parts.specs.Views.{View}
use Rattle.bf_parts.specs.Spreads.{Trio, view_at}
use Rattle.bf_parts.specs.SnapshotRounds.{are_paired, filled_view}

-- whom a rank sees among members: not itself, whoever sees it, and whom it gives its part or is given one by
pub record IsSight (shift : ℕ) (sees : (members : List ℕ) → (rank other : ℕ) → Bool) (members : List ℕ) : Type 0 where
  pub apart : (rank : ℕ) → sees members rank rank ≡ false
  pub both : (rank other : ℕ) → sees members rank other ≡ true → sees members other rank ≡ true
  pub holders : (from to : ℕ) → gives members shift from to ≡ true → from ≢ to → sees members to from ≡ true

-- a rank sees its buddy and the one whose buddy it is
abbrev pub sees_paired : (shift : ℕ) → (members : List ℕ) → (rank other : ℕ) → Bool
sees_paired shift members rank other = are_paired members shift rank other

-- a rank sees all others
abbrev pub sees_others : (members : List ℕ) → (rank other : ℕ) → Bool
sees_others members rank other = not (other == rank)

-- a view that has heard a message, and the message: the sender's part, where it is for the receiver
abbrev pub heard_part : {I : Type 0} → View I → Option (List I) → View I
heard_part view None = view
heard_part view (Some items) = record view { spare = record view.spare { other = items } }

abbrev pub given_part : {I : Type 0} → Bool → List I → Option (List I)
given_part b items = if b then Some items else None

-- each rank tells those whom it sees, and at the end its spare side is of the new snapshot
abbrev pub snapshot_play : {I : Type 0} → (sees : (members : List ℕ) → (rank other : ℕ) → Bool) → (shift : ℕ) → Epoch → Play (View I) (Option (List I))
snapshot_play sees shift epoch = record {
  peers = λ members view. filter (sees members view.rank) members;
  tell = λ view to. given_part (gives epoch.members shift view.rank to) view.items;
  hear = λ view peer msg. heard_part view msg;
  finish = filled_view shift epoch;
}

-- the parts in a message
abbrev pub parts_in : {I : Type 0} → ℕ → Option (List I) → List (List I)
parts_in peer None = []
parts_in peer (Some items) = items ∷ []

-- a rank's view that has heard some parts: it has the last of them
abbrev pub holding_part : {K I : Type 0} → (shift : ℕ) → Epoch → Trio K I → (owner home_of : K → ℕ) → (rank : ℕ) → List (List I) → View I
holding_part shift epoch leaves owner home_of rank parts =
    record (view_at shift epoch false leaves owner home_of rank) { spare = record bare { other = fold (λ was part. part) [] parts } }

-- the course of the round
abbrev pub snapshot_course : {K I : Type 0} → (sees : (members : List ℕ) → (rank other : ℕ) → Bool) → (shift : ℕ) → Epoch → Trio K I → (owner home_of : K → ℕ) → Course (View I) (Option (List I))
snapshot_course sees shift epoch leaves owner home_of =
    gathering (snapshot_play sees shift epoch) parts_in (holding_part shift epoch leaves owner home_of) epoch.members (view_at shift epoch false leaves owner home_of)
