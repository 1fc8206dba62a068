-- Who has a block that is linked with one of another, is seen so by that one.
use Rattle.std.proofs.Common.{◌≡◌, ℕ, Bool, true, List, refl, ap, sym, ◌∙◌}
use Rattle.std.specs.Prelude.{◌==◌, ◌&&◌, not, filter}
use Rattle.std.specs.List.{list_any}
use Rattle.std.proofs.lemmas.Bool.{and_parts, and_from, eq-eqb}
use Rattle.bf_lemmas.proofs.Tests.{eqb_swap, same_tests}
use Rattle.bf_lemmas.proofs.Lists.{any_mapped, any_filtered, any_pair_swapped}
use Rattle.bf_id.specs.declared.shape.Shape.{Shape}
use Rattle.bf_id.specs.Id.{BlockId, touches}
use Rattle.bf_id.proofs.Boxes.{Touch_sym}
use Rattle.bf_case.specs.declared.case.Case.{Case}
use Rattle.bf_case.specs.Map.{ids_of}
use Rattle.bf_block.specs.declared.point.Point.{Point}
use Rattle.bf_block.specs.Block.{map_at}
use Rattle.bf_case.proofs.TestLemmas.{touches_decides}
use Rattle.bf_links.specs.declared.link.Link.{Link}
use Rattle.bf_links.specs.Links.{link_to}
use Rattle.bf_parts.specs.Leaves.{part_of}
use Rattle.bf_rounds.specs.Gathering.{AreMutual}
use Rattle.bf_forest.specs.ModelBlocks.{blocks_on, linked_on}
use Rattle.bf_forest.specs.Rounds.{is_linked, is_neighbor}

touches_swap : (shape : Shape) (i j : BlockId) → touches shape i j ≡ touches shape j i
touches_swap shape i j = same_tests (touches shape i j) (touches shape j i) (there i j) (there j i)
  where
    there : (i j : BlockId) → touches shape i j ≡ true → touches shape j i ≡ true
    there i j touch = (touches_decides shape j i).1 (Touch_sym shape i j ((touches_decides shape i j).0 touch))

module _ (c : Case) (p : Point) (owner : BlockId → ℕ) where
  -- whether a rank's part is linked with a block of another: whether two leaves that touch are theirs
  pub linked_is : (rank other : ℕ) → list_any (is_linked other) (part_of (blocks_on c p) owner rank)
      ≡ list_any (λ i. owner i == rank && list_any (λ j. touches c.roots i j && owner j == other) (ids_of (map_at c p))) (ids_of (map_at c p))
  unfolding part_of blocks_on
  linked_is rank other =
      any_mapped (is_linked other) (linked_on c p owner) (filter (λ i. owner i == rank) (ids_of (map_at c p)))
      ∙ any_filtered (λ i. is_linked other (linked_on c p owner i)) (λ i. owner i == rank) (ids_of (map_at c p))
      ∙ ap (λ (f : BlockId → Bool). list_any (λ i. owner i == rank && f i) (ids_of (map_at c p)))
      (λ k i. (any_mapped (λ (link : Link). link.owner == other) (link_to owner) (filter (touches c.roots i) (ids_of (map_at c p)))
      ∙ any_filtered (λ j. owner j == other) (touches c.roots i) (ids_of (map_at c p))) k)

  linked_back : (rank other : ℕ) → list_any (is_linked other) (part_of (blocks_on c p) owner rank) ≡ true
      → list_any (is_linked rank) (part_of (blocks_on c p) owner other) ≡ true
  linked_back rank other some =
      linked_is other rank
      ∙ any_pair_swapped (touches c.roots) (touches_swap c.roots) (λ i. owner i == rank) (λ i. owner i == other) (ids_of (map_at c p)) (sym (linked_is rank other) ∙ some)

  pub neighbors_mutual : (members : List ℕ)
      → AreMutual members (λ rank other. is_neighbor rank (part_of (blocks_on c p) owner rank) other) (λ rank. filter (is_neighbor rank (part_of (blocks_on c p) owner rank)) members)
  unfolding is_neighbor
  neighbors_mutual members = record {
    are = λ rank is_in. refl;
    apart = λ rank. let same : (rank == rank) ≡ true = eq-eqb rank rank refl in rw same refl;
    both = λ rank other is_in other_in sees.
        let parts = and_parts (not (other == rank)) (list_any (is_linked other) (part_of (blocks_on c p) owner rank)) sees in
        and_from (not (rank == other)) (list_any (is_linked rank) (part_of (blocks_on c p) owner other)) (ap not (eqb_swap rank other) ∙ parts.0) (linked_back rank other parts.1);
  }
