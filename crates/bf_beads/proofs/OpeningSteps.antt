-- A row that is built up from its first.
use Rattle.std.proofs.Common.{◌≡◌, ℕ, ◌+◌, map, refl}
use Rattle.std.specs.Prelude.{filter, ◌==◌}
use Rattle.std.specs.List.{range_with_len}
use Rattle.bf_parts.specs.Leaves.{part_of}
use Rattle.bf_buddy.proofs.MemberLemmas.{range_has}
use Rattle.bf_beads.specs.Row.{row, is_beside, link_to, links_of, value_at, bead_at, beads_at}

pub ruleset opening_steps = (range_has)

pub links_are : (count number : ℕ) (owner : ℕ → ℕ) → map (link_to owner) (filter (is_beside number) (range_with_len 0 count)) ≡ links_of count owner number
unfolding links_of row
links_are count number owner = refl

pub part_is : (count rank : ℕ) (owner : ℕ → ℕ) → map (bead_at count 0 owner) (filter (λ number. owner number == rank) (range_with_len 0 count)) ≡ part_of (beads_at count 0) owner rank
unfolding part_of row
part_is count rank owner = refl

pub first_bead : (count number : ℕ) (owner : ℕ → ℕ) → record { number = number; value = number + 1; links = links_of count owner number } ≡ bead_at count 0 owner number
unfolding value_at
first_bead count number owner = refl
