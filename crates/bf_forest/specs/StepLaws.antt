-- A step leads from the blocks behind a time's regrid to those of the next time.
use Rattle.std.proofs.Common.{◌≡◌, ℕ, ◌+◌, ◌++◌, List, [], map, Contains, Some, sym, ap, subst, ◌∙◌}
use Rattle.std.specs.Prelude.{◌==◌, filter}
use Rattle.std.proofs.lemmas.Option.{same_Some}
use Rattle.std.proofs.lemmas.Simd.{map-map}
use Rattle.bf_lemmas.proofs.Lists.{All-from_Contains, map_each}
use Rattle.bf_id.specs.Id.{BlockId}
use Rattle.bf_cells.specs.Grid.{Grid, grid_with}
use Rattle.bf_cells.specs.Kernel.{relaxed_grid}
use Rattle.bf_case.specs.declared.case.Case.{Case}
use Rattle.bf_case.specs.Map.{Leaf, ids_of, cells_at}
use Rattle.bf_case.specs.Case.{IsValid}
use Rattle.bf_case.specs.Model.{model, regrids}
use Rattle.bf_case.proofs.ListLemmas.{Contains-map}
use Rattle.bf_case.proofs.LookupLemmas.{leaf_from_cells_at}
use Rattle.bf_case.proofs.TestLemmas.{Contains-filter_cases}
use Rattle.bf_case.proofs.ModelLemmas.{balanced-model_at}
use Rattle.bf_block.specs.declared.point.Point.{Point}
use Rattle.bf_block.specs.Block.{BlockValue, IsModels, map_at, before_regrid, after_regrid, kept_block, stepped_block}
use Rattle.bf_block.proofs.Steps.{stepped_leaf}
use Rattle.bf_links.specs.declared.link.Link.{Link}
use Rattle.bf_links.specs.Links.{links_of}
use Rattle.bf_case.specs.Beside.{HoldSamples}
use Rattle.bf_ghost.specs.Filling.{AreStripsFor}
use Rattle.bf_ghost.specs.Strips.{StripValue}
use Rattle.bf_ghost.specs.Telling.{strips_for}
use Rattle.bf_parts.specs.Leaves.{AreAmong, part_of}
use Rattle.bf_msg.specs.declared.linked_block.LinkedBlock.{LinkedBlock}
use Rattle.bf_forest.specs.BlockLaws.{block_is, ids_next, model_cells, ready_map}
use Rattle.bf_forest.specs.ModelBlocks.{cells_or, block_on, linked_at, linked_on, blocks_at, blocks_on, ready, IsBlockOn}
use Rattle.bf_forest.specs.Rounds.{stepped_by, stepped_all, strips_to}
use Rattle.bf_forest.specs.StripLaws.{heard, all_told, strips_are_all}
use Rattle.bf_ghost.specs.Surrounding.{surrounding}
use Rattle.bf_ghost.proofs.SurroundingLemmas.{surrounding_holds, surrounding_side}

module _ (c : Case) (time : ℕ) (valid : IsValid c) where
  -- the model's cells of a leaf, one step later, by the strips that are told to it
  pub stepped_cells : (b : BlockValue) (strips : List StripValue) → IsBlockOn c (ready c time) b → AreStripsFor c.roots (map_at c (ready c time)) b.id strips
      → cells_at (model c (time + 1)) b.id ≡ Some (relaxed_grid b.cells (surrounding b.cells strips))
  stepped_cells b strips is are =
      let i : BlockId = b.id in
      let g : Grid = b.cells in
      let leaves : List Leaf = map_at c (ready c time) in
      let found : cells_at leaves i ≡ Some g = model_cells c (ready c time) b is in
      let map = balanced-model_at c time (regrids c time) valid in
      let holds = surrounding_holds c.roots c.side leaves i g strips valid.sized.shape map.map map.balanced (leaf_from_cells_at leaves i g found) are in
      stepped_leaf c time i g (surrounding g strips) (record { valid = valid })
      (ap (λ (ls : List Leaf). cells_at ls i) (sym (ready_map c time)) ∙ found)
      (surrounding_side g strips)
      (subst (λ (ls : List Leaf). HoldSamples c.roots ls i g (surrounding g strips)) (ready_map c time) holds)

  -- so what is the model's of this leaf at the next time is the block one step later
  pub next_is : (b next : BlockValue) (strips : List StripValue) → IsBlockOn c (ready c time) b → AreStripsFor c.roots (map_at c (ready c time)) b.id strips
      → next.id ≡ b.id → next.point ≡ before_regrid (time + 1) → next.case ≡ c → IsModels next → next ≡ stepped_block (kept_block b) (surrounding b.cells strips)
  next_is b next strips is are same_id point of_case models =
      let found : cells_at (map_at next.case next.point) next.id ≡ Some next.cells = models.leaf in
      let there : cells_at (model c (time + 1)) b.id ≡ Some next.cells =
      subst (λ (i : BlockId). cells_at (model c (time + 1)) i ≡ Some next.cells) same_id
      (subst (λ (p : Point). cells_at (map_at c p) next.id ≡ Some next.cells) point
      (subst (λ (k : Case). cells_at (map_at k next.point) next.id ≡ Some next.cells) of_case found)) in
      let cells : next.cells ≡ relaxed_grid b.cells (surrounding b.cells strips) =
      same_Some next.cells (relaxed_grid b.cells (surrounding b.cells strips)) (sym there ∙ stepped_cells b strips is are) in
      let at : next.point ≡ before_regrid (b.point.time + 1) = point ∙ ap (λ (p : Point). before_regrid (p.time + 1)) (sym is.at) in
      λ k. record { case = (of_case ∙ sym is.of_case) k; point = at k; id = same_id k; cells = cells k }

  -- and a block that stands behind its time's regrid is a leaf there
  pub kept_is : (b : BlockValue) → IsBlockOn c (ready c time) b → Contains (ids_of (map_at b.case (after_regrid b.point.time))) b.id
  kept_is b is =
      let leaves : List Leaf = map_at c (ready c time) in
      let has : Contains (ids_of leaves) b.id =
      Contains-map (λ (leaf : Leaf). leaf.0) leaves (b.id, b.cells) (leaf_from_cells_at leaves b.id b.cells (model_cells c (ready c time) b is)) in
      subst (λ (p : Point). Contains (ids_of (map_at b.case (after_regrid p.time))) b.id) (sym is.at)
      (subst (λ (k : Case). Contains (ids_of (map_at k (after_regrid time))) b.id) (sym is.of_case)
      (subst (λ (ls : List Leaf). Contains (ids_of ls) b.id) (ready_map c time) has))

  -- the strips for a block are those for it once it is kept
  pub kept_told : (b : BlockValue) (strips : List StripValue) → IsBlockOn c (ready c time) b → AreStripsFor c.roots (map_at c (ready c time)) b.id strips
      → AreStripsFor (kept_block b).case.roots (map_at (kept_block b).case (kept_block b).point) (kept_block b).id strips
  kept_told b strips is are =
      subst (λ (p : Point). AreStripsFor b.case.roots (map_at b.case (after_regrid p.time)) b.id strips) (sym is.at)
      (subst (λ (k : Case). AreStripsFor k.roots (map_at k (after_regrid time)) b.id strips) (sym is.of_case)
      (subst (λ (ls : List Leaf). AreStripsFor c.roots ls b.id strips) (ready_map c time) are))

  -- so each block becomes that of the next time, with the same links
  stepped_is : (owner : BlockId → ℕ) (strips : List StripValue) (i : BlockId) → Contains (ids_of (map_at c (ready c time))) i → AreStripsFor c.roots (map_at c (ready c time)) i (strips_for i strips)
      → stepped_by strips (linked_on c (ready c time) owner i) ≡ linked_at c (time + 1) owner i
  stepped_is owner strips i has are =
      let with : Grid → List Link → LinkedBlock = λ g links. record { block = record { case = c; point = before_regrid (time + 1); id = i; cells = g }; links = links } in
      ap (λ o. with (cells_or o (grid_with 0 [])) (links_of c.roots (ids_of (map_at c (ready c time))) owner i)) (sym (stepped_cells (block_on c (ready c time) i) (strips_for i strips) (block_is c (ready c time) i valid has) are))
      ∙ ap (λ (ids : List BlockId). with (cells_or (cells_at (model c (time + 1)) i) (grid_with 0 [])) (links_of c.roots ids owner i)) (sym (ids_next c time))

  -- and a rank's part becomes its part of the next time
  pub stepped_part : (owner : BlockId → ℕ) (members : List ℕ) (rank : ℕ) (told : List StripValue) → AreAmong members (blocks_on c (ready c time)) owner → told ≡ heard c (ready c time) owner members rank
      → stepped_all rank told (part_of (blocks_on c (ready c time)) owner rank) ≡ part_of (blocks_at c (time + 1)) owner rank
  unfolding stepped_all part_of blocks_on
  stepped_part owner members rank told owned are =
      let own : List BlockId = filter (λ i. owner i == rank) (ids_of (map_at c (ready c time))) in
      let all : List StripValue = all_told c (ready c time) owner members rank in
      ap (λ (strips : List StripValue). map (stepped_by (strips ++ strips_to rank (map (linked_on c (ready c time) owner) own))) (map (linked_on c (ready c time) owner) own)) are
      ∙ map-map (stepped_by all) (linked_on c (ready c time) owner) own
      ∙ map_each (λ i. stepped_by all (linked_on c (ready c time) owner i)) (linked_at c (time + 1) owner) own
      (All-from_Contains (λ i. stepped_by all (linked_on c (ready c time) owner i) ≡ linked_at c (time + 1) owner i) own (λ i has.
      let its = Contains-filter_cases (λ i. owner i == rank) (ids_of (map_at c (ready c time))) i has in
      stepped_is owner all i its.0 (strips_are_all c (ready c time) valid owner members rank owned i its.0 its.1)))
      ∙ ap (λ (ids : List BlockId). map (linked_at c (time + 1) owner) (filter (λ i. owner i == rank) ids)) (sym (ids_next c time))
