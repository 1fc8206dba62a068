-- The round of an epoch in which each rank sends its part to its buddy and fills its spare side.
use Rattle.std.specs.Prelude.{ℕ, ◌==◌, Bool, ◌&&◌, ◌||◌, not, List}
use Rattle.bf_buddy.specs.Buddy.{buddy_of}
use Rattle.bf_program.specs.declared.epoch.Epoch.{Epoch}
use Rattle.bf_parts.specs.Sides.{source_of}
use Rattle.bf_parts.specs.Views.{View}

-- whether two members are a rank and its buddy, in one order or the other
unfoldable pub are_paired : (members : List ℕ) → (shift a b : ℕ) → Bool
are_paired members shift a b = not (a == b) && (buddy_of members a shift == b || buddy_of members b shift == a)

-- a view at the end of the round
abbrev pub filled_view : {I : Type 0} → (shift : ℕ) → Epoch → View I → View I
filled_view shift epoch view = record view {
  spare = record {
    time = epoch.target;
    homes = epoch.members;
    source = source_of epoch.members shift view.rank;
    own = view.items;
    other = view.spare.other;
  };
}
