-- What is seen of a rank's local where leaves are spread over members, with the agreed snapshot of other leaves at its holders.
use Rattle.std.specs.Prelude.{ℕ, Bool, List, if◌then◌else◌}
use Rattle.bf_program.specs.declared.epoch.Epoch.{Epoch}
use Rattle.bf_parts.specs.declared.side.Side.{Side}
use Rattle.bf_parts.specs.Sides.{bare}
use Rattle.bf_parts.specs.Leaves.{Kind, Leaves, part_of, side_at}
use Rattle.bf_parts.specs.Merges.{regained}
use Rattle.bf_parts.specs.Views.{View}

-- the leaves of a round, those of the agreed snapshot and those of the new one
pub record Trio (K I : Type 0) : Type 0 where
  pub now : Leaves K I
  pub agreed : Leaves K I
  pub new : Leaves K I

-- what is seen of a member's local at the beginning of a round: its part of the leaves, its side of the agreed snapshot, and
-- that of the new one where it is made
abbrev pub view_at : {K I : Type 0} → (shift : ℕ) → Epoch → (is_made : Bool) → Trio K I → (owner home_of : K → ℕ) → (rank : ℕ) → View I
view_at shift epoch is_made leaves owner home_of rank = record {
  rank = rank;
  items = part_of leaves.now owner rank;
  active = side_at epoch.time epoch.homes shift leaves.agreed home_of rank;
  spare = if is_made then side_at epoch.target epoch.members shift leaves.new owner rank else bare;
}

-- a view whose new snapshot became the agreed one
abbrev pub kept_view : {I : Type 0} → View I → View I
kept_view view = record view { active = view.spare; spare = bare }

-- the view of a rank that went back to its side of the agreed snapshot, as one of the live
abbrev pub restored_view : {I : Type 0} → Kind I → (shift : ℕ) → Side I → (rank : ℕ) → (live : List ℕ) → View I
restored_view kind shift side rank live = record {
  rank = rank;
  items = regained kind side shift live;
  active = side;
  spare = bare;
}
