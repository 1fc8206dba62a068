-- What the table keeps of each seat, beside what the seat knows.
use Rattle.std.specs.Prelude.{◌≡◌, ℕ, true, false, [], ◌∷◌, Option, None, IsSome}
use Rattle.atomic_table.specs.Table.{Me}
use Rattle.bf_turn.specs.declared.known.Known.{Known}
use Rattle.bf_turn.specs.declared.view.View.{View}
use Rattle.bf_turn.specs.Logs.{shorter}
use Rattle.bf_turn.specs.Seats.{opened, without, newcomer, joined}

-- a seat has the turn, and the state is out of its hand; a seat without the turn
abbrev pub HasTurn : {S E N : Type 0} → Me (Option S) (View E N) → Type 0
HasTurn me = (me.1 ≡ (0, None) ∷ []) × (me.0.turn ≡ true) × IsSome me.0.known.name

abbrev pub IsAtRest : {S E N : Type 0} → Me (Option S) (View E N) → Type 0
IsAtRest me = (me.1 ≡ []) × (me.0.turn ≡ false) × IsSome me.0.known.name

module _ {E N : Type 0} where
  abbrev pub resting : Known E N → View E N
  resting known = record { turn = false; past = []; known = known }

  -- the first seat
  abbrev pub first_view : (parties : ℕ) → N → View E N
  first_view parties name = resting (opened parties name)

  -- a seat that a party is split off, and that party's
  abbrev pub left_view : (party : ℕ) → View E N → View E N
  left_view party view = record view { known = without party view.known }

  abbrev pub right_view : (party : ℕ) → View E N → View E N
  right_view party view = resting (newcomer party view.known)

  -- two seats that are joined, and the one that is spent in it
  abbrev pub joined_view : View E N → View E N → View E N
  joined_view v w = record { turn = false; past = shorter v.known.seen w.known.seen; known = joined v.known w.known }

  abbrev pub spent_view : View E N
  spent_view = resting (record { parties = []; name = None; seen = []; calls = []; passes = 0 })
