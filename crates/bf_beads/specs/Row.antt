-- Beads in a row, each linked with those beside it.
use Rattle.std.specs.Prelude.{ℕ, zero, suc, ◌+◌, ◌%◌, ◌^◌, ◌==◌, ◌||◌, nat_lt, Bool, IsTrue, List, map, filter, All}
use Rattle.std.specs.List.{range_with_len, fold}
use Rattle.bf_buddy.specs.Members.{is_member}
use Rattle.bf_parts.specs.Leaves.{Kind, Leaves}
use Rattle.bf_beads.specs.declared.bead.Bead.{Bead}
use Rattle.bf_beads.specs.declared.bead.Link.{Link}

-- the numbers of a row of so many beads
unfoldable pub row : (count : ℕ) → List ℕ
row count = range_with_len 0 count

-- whether a bead stands beside another
abbrev pub is_beside : (number other : ℕ) → Bool
is_beside number other = number == other + 1 || other == number + 1

-- a link to a bead, and a link with another owner
abbrev pub link_to : (owner : ℕ → ℕ) → (number : ℕ) → Link
link_to owner number = record { number = number; owner = owner number }

abbrev pub with_owner : (ℕ → ℕ) → Link → Link
with_owner f link = record link { owner = f link.owner }

-- a bead's links: to those beside it, in rising order
unfoldable pub links_of : (count : ℕ) → (owner : ℕ → ℕ) → (number : ℕ) → List Link
links_of count owner number = map (link_to owner) (filter (is_beside number) (row count))

-- a bead one step of time later: its value grows by its number and the time
abbrev pub grown : (time : ℕ) → Bead → Bead
grown time bead = record bead { value = (bead.value + bead.number + time) % 2 ^ 32 }

-- a bead's value at a time: one more than its number at first
unfoldable pub value_at : (time number : ℕ) → ℕ
value_at zero number = number + 1
value_at (suc time) number = (value_at time number + number + time) % 2 ^ 32

abbrev pub bead_at : (count time : ℕ) → (owner : ℕ → ℕ) → (number : ℕ) → Bead
bead_at count time owner number = record { number = number; value = value_at time number; links = links_of count owner number }

-- the beads of a time
abbrev pub beads_at : (count time : ℕ) → Leaves ℕ Bead
beads_at count time = record { keys = row count; item = bead_at count time }

-- beads stand in the order of their numbers
abbrev pub bead_kind : Kind Bead
bead_kind = record {
  first = λ a b. nat_lt a.number b.number;
  remap = λ f bead. record bead { links = map (with_owner f) bead.links };
}

-- each owner in a bead's links is among these
abbrev pub IsOwnedAmong : List ℕ → Bead → Type 0
IsOwnedAmong homes bead = All (λ (link : Link). IsTrue (is_member homes link.owner)) bead.links

-- where a bead begins
abbrev pub home_in : (ranks number : ℕ) → ℕ
home_in ranks number = number % ranks

abbrev pub numbers_of : List Bead → List ℕ
numbers_of beads = map (λ (bead : Bead). bead.number) beads

-- the sum of the values, modulo 2^64
unfoldable pub total : List Bead → ℕ
total beads = fold (λ sum bead. (sum + bead.value) % 2 ^ 64) 0 beads
