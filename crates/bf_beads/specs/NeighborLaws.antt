-- Who has a bead that is linked with one of another, is seen so by that one.
use Rattle.std.proofs.Common.{◌≡◌, ℕ, Bool, true, List, arith, refl, ap, sym, ◌∙◌}
use Rattle.std.specs.Prelude.{◌==◌, ◌&&◌, not, filter}
use Rattle.std.specs.List.{list_any}
use Rattle.std.proofs.lemmas.Bool.{and_parts, and_from, eq-eqb}
use Rattle.std.proofs.lemmas.Bool.Decides.{nat_tests}
use Rattle.bf_lemmas.proofs.Tests.{eqb_swap}
use Rattle.bf_lemmas.proofs.Lists.{any_mapped, any_filtered, any_pair_swapped}
use Rattle.bf_parts.specs.Leaves.{part_of}
use Rattle.bf_rounds.specs.Gathering.{AreMutual}
use Rattle.bf_beads.specs.declared.bead.Link.{Link}
use Rattle.bf_beads.specs.Rounds.{is_linked, is_neighbor}
use Rattle.bf_beads.specs.Row.{row, is_beside, link_to, links_of, bead_at, beads_at}

module _ (count time : ℕ) (owner : ℕ → ℕ) where
  -- whether a rank's part is linked with a bead of another: whether two beads beside each other are theirs
  linked_is : (rank other : ℕ) → list_any (is_linked other) (part_of (beads_at count time) owner rank)
      ≡ list_any (λ k. owner k == rank && list_any (λ j. is_beside k j && owner j == other) (row count)) (row count)
  unfolding part_of links_of
  linked_is rank other =
      any_mapped (is_linked other) (bead_at count time owner) (filter (λ k. owner k == rank) (row count))
      ∙ any_filtered (λ k. is_linked other (bead_at count time owner k)) (λ k. owner k == rank) (row count)
      ∙ ap (λ (f : ℕ → Bool). list_any (λ k. owner k == rank && f k) (row count))
      (λ i k. (any_mapped (λ (link : Link). link.owner == other) (link_to owner) (filter (is_beside k) (row count)) ∙ any_filtered (λ j. owner j == other) (is_beside k) (row count)) i)

  beside_swap : (k j : ℕ) → is_beside k j ≡ is_beside j k
  beside_swap k j = grind (arith, nat_tests)

  linked_back : (rank other : ℕ) → list_any (is_linked other) (part_of (beads_at count time) owner rank) ≡ true
      → list_any (is_linked rank) (part_of (beads_at count time) owner other) ≡ true
  linked_back rank other some =
      linked_is other rank ∙ any_pair_swapped is_beside beside_swap (λ k. owner k == rank) (λ k. owner k == other) (row count) (sym (linked_is rank other) ∙ some)

  pub neighbors_mutual : (members : List ℕ)
      → AreMutual members (λ rank other. is_neighbor rank (part_of (beads_at count time) owner rank) other) (λ rank. filter (is_neighbor rank (part_of (beads_at count time) owner rank)) members)
  unfolding is_neighbor
  neighbors_mutual members = record {
    are = λ rank is_in. refl;
    apart = λ rank. let same : (rank == rank) ≡ true = eq-eqb rank rank refl in rw same refl;
    both = λ rank other is_in other_in sees.
        let parts = and_parts (not (other == rank)) (list_any (is_linked other) (part_of (beads_at count time) owner rank)) sees in
        and_from (not (rank == other)) (list_any (is_linked rank) (part_of (beads_at count time) owner other)) (ap not (eqb_swap rank other) ∙ parts.0) (linked_back rank other parts.1);
  }
