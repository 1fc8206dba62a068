-- The order that the table keeps, and what each step on it tells.
use Rattle.std.specs.Prelude.{◌≡◌, ℕ, ◌<◌, ◌≤◌, Bool, true, false, List, [], ◌∷◌, length, Option, Some, None, Contains, IfSome, if◌then◌else◌}
use mathlib.Core.Option as options
use lib.ListN.{get_elem?}
use Rattle.atomic_table.specs.Table.{State, Me, rest}
use Rattle.bf_turn.specs.declared.view.View.{View}
use Rattle.bf_turn.specs.Logs.{entries_of, StartsWith}
use Rattle.bf_turn.specs.Seats.{HasOwnCalls, passed}

-- A seat fits a log of so many parties, whose state has this name. Who has the turn has a party, and has seen the whole log.
pub record Fits {E N : Type 0} (party_of : E → ℕ) (parties : ℕ) (name : N) (held : Bool) (log : List E) (view : View E N) : Type 0 where
  pub turn : view.turn ≡ true → (held ≡ true) × (view.known.seen ≡ log) × ((party : ℕ) × Contains view.known.parties party)
  pub seen : StartsWith log view.known.seen
  pub past : StartsWith log view.past
  pub owns : HasOwnCalls party_of view.known log
  pub few : (party : ℕ) → Contains view.known.parties party → party < parties
  pub named : IfSome view.known.name (λ known. known ≡ name)

-- the log of the state in a seat's hand
abbrev pub carried_log : {S E : Type 0} → (S → List E) → List (ℕ × Option S) → List E
carried_log log_of [] = []
carried_log log_of ((k, Some state) ∷ others) = log_of state
carried_log log_of ((k, None) ∷ others) = []

-- a fact of the state in a seat's hand
abbrev pub Carries : {S : Type 0} → (S → Type 0) → List (ℕ × Option S) → Type 0
Carries fact [] = ⊥
Carries fact ((k, Some state) ∷ others) = (k ≡ 0) × fact state
Carries fact ((k, None) ∷ others) = ⊥

module _ {S E N : Type 0} (log_of : S → List E) (name_of : S → N) (party_of : E → ℕ) where
  -- the state is at home, with this name and log
  abbrev pub IsHome : N → List E → List (options.Option (Option S)) → Type 0
  IsHome name log homes = (state : S) × ((homes ≡ options.some (Some state) ∷ []) × (log_of state ≡ log) × (name_of state ≡ name))

  -- There is one log, which every seat fits, of entries of the parties alone. The state is at home with it unless some seat has
  -- the turn, which the one word tells. No two seats have the turn, and no party is in two seats.
  pub record IsOrderly (parties : ℕ) (name : N) (table : State (Option S) (View E N)) : Type 0 where
    pub held : Bool
    pub log : List E
    pub word : table.words ≡ (if held then 1 else 0) ∷ []
    pub slots : length table.homes ≡ 1
    pub home : held ≡ false → IsHome name log table.homes
    pub away : held ≡ true → (i : ℕ) × ((view : View E N) × ((get_elem? table.views i ≡ options.some view) × (view.turn ≡ true)))
    pub fits : (i : ℕ) (view : View E N) → get_elem? table.views i ≡ options.some view → Fits party_of parties name held log view
    pub one : (i j : ℕ) (v w : View E N) → get_elem? table.views i ≡ options.some v → get_elem? table.views j ≡ options.some w
        → v.turn ≡ true → w.turn ≡ true → i ≡ j
    pub apart : (i j party : ℕ) (v w : View E N) → get_elem? table.views i ≡ options.some v → get_elem? table.views j ≡ options.some w
        → Contains v.known.parties party → Contains w.known.parties party → i ≡ j
    pub within : (party : ℕ) → parties ≤ party → entries_of party_of party log ≡ []

  -- a seat takes the turn: the state in its hand has the name, and a log that begins with what was seen and has of its parties its calls
  abbrev pub Takes : (me now : Me (Option S) (View E N)) → Type 0
  Takes me now =
      Carries (λ state. (now.0 ≡ record me.0 { turn = true; known = record me.0.known { seen = log_of state } })
      × (StartsWith (log_of state) me.0.known.seen × (HasOwnCalls party_of me.0.known (log_of state) × (me.0.known.name ≡ Some (name_of state))))) now.1
      × (rest now.1 ≡ [])

  -- who finds the turn free takes it, and who doesn't stays as it was
  abbrev pub Tried : (me : Me (Option S) (View E N)) → (found : ℕ) → (now : Me (Option S) (View E N)) → Type 0
  Tried me found now = (found ≡ 0 → Takes me now) × (¬ (found ≡ 0) → now ≡ me)

module _ {S E N : Type 0} where
  -- who passes the turn on has seen the log of the state that it gave
  abbrev pub Passed : (log_of : S → List E) → (me now : Me (Option S) (View E N)) → Type 0
  Passed log_of me now = now ≡ (record me.0 { turn = false; known = passed me.0.known (carried_log log_of me.1) }, rest me.1)

  -- what was seen begins with the past, where that is no longer
  abbrev pub Recalled : (me now : Me (Option S) (View E N)) → Type 0
  Recalled me now = (now ≡ me) × (length me.0.past ≤ length me.0.known.seen → StartsWith me.0.known.seen me.0.past)
