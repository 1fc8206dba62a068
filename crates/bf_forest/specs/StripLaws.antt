-- In a step's round each block is told by all leaves that share a face with it what lies there.
use Rattle.std.proofs.Common.{◌≡◌, ℕ, Bool, true, false, List, [], ◌∷◌, ◌++◌, ◌⊎◌, inl, inr, map, flat_map, Contains, Some, refl, sym, ap, subst, ◌∙◌}
use Rattle.std.specs.Prelude.{◌==◌, ◌&&◌, not, filter}
use Rattle.std.specs.List.{list_any}
use Rattle.std.proofs.lemmas.Grind.{flat_map-append}
use Rattle.std.proofs.lemmas.List.{append-nil, map-id}
use Rattle.std.proofs.lemmas.List.Folds.{flat_map-map}
use Rattle.std.proofs.lemmas.Bool.{and_from, cases_Bool, eqb-true, eq-eqb}
use Rattle.std.proofs.lemmas.List.Elements.{All-contains, All-contains_itself, filter-append, Contains-append_left, Contains-append_right}
use Rattle.bf_lemmas.proofs.Lists.{All-from_Contains, filter_mapped, map_twice}
use Rattle.bf_buddy.specs.Members.{is_member}
use Rattle.bf_buddy.proofs.MemberLemmas.{all_member}
use Rattle.bf_face.specs.declared.face.Face.{Face}
use Rattle.bf_id.specs.Face.{SharesFace}
use Rattle.bf_id.specs.Id.{BlockId, box_of, id_eq, touches}
use Rattle.bf_id.proofs.Tilings.{Contains-head}
use Rattle.bf_cells.specs.Grid.{Grid}
use Rattle.bf_case.specs.declared.case.Case.{Case}
use Rattle.bf_case.specs.Halves.{ShareFace}
use Rattle.bf_case.specs.Map.{Leaf, ids_of}
use Rattle.bf_case.specs.Case.{IsValid}
use Rattle.bf_case.proofs.FaceLemmas.{shares_touch}
use Rattle.bf_case.proofs.ListLemmas.{Contains-map}
use Rattle.bf_case.proofs.LookupLemmas.{cells_at-leaf, leaf_from_cells_at}
use Rattle.bf_case.proofs.TestLemmas.{touches_decides, any_from_passes, Contains-filter, Contains-filter_cases}
use Rattle.bf_block.specs.declared.point.Point.{Point}
use Rattle.bf_block.specs.Block.{leaf_of, map_at}
use Rattle.bf_links.specs.declared.link.Link.{Link}
use Rattle.bf_links.specs.Links.{link_to}
use Rattle.bf_ghost.specs.Filling.{AreStripsFor}
use Rattle.bf_ghost.specs.Strips.{StripValue}
use Rattle.bf_ghost.specs.Telling.{heard_by, strips_for, strips_from, told_strips}
use Rattle.bf_ghost.proofs.TellingLemmas.{flat_map_each, links_tell, told_are_all}
use Rattle.bf_parts.specs.Leaves.{AreAmong, part_of}
use Rattle.bf_msg.specs.declared.linked_block.LinkedBlock.{LinkedBlock}
use Rattle.bf_forest.specs.BlockLaws.{model_map, block_is, model_cells}
use Rattle.bf_forest.specs.ModelBlocks.{block_on, linked_on, blocks_on}
use Rattle.bf_forest.specs.NeighborLaws.{linked_is}
use Rattle.bf_forest.specs.Rounds.{strips_of, strips_to, is_neighbor}

-- what passes of joined lists is joined of what passes of each
filter_flat_map : {X Y : Type 0} (test : Y → Bool) (f : X → List Y) (xs : List X) → filter test (flat_map f xs) ≡ flat_map (λ x. filter test (f x)) xs
filter_flat_map test f [] = refl
filter_flat_map {Y = Y} test f (x ∷ xs) = filter-append test (f x) (flat_map f xs) ∙ ap (λ (ys : List Y). filter test (f x) ++ ys) (filter_flat_map test f xs)

pub member_contains : (ranks : List ℕ) (rank : ℕ) → is_member ranks rank ≡ true → Contains ranks rank
member_contains ranks rank is_in = all_member (Contains ranks) ranks rank (All-contains_itself ranks) is_in

-- what a rank has heard from its neighbours, and that with what it tells itself
abbrev pub heard : (c : Case) → (p : Point) → (owner : BlockId → ℕ) → (members : List ℕ) → (rank : ℕ) → List StripValue
heard c p owner members rank =
    flat_map (λ from. strips_to rank (part_of (blocks_on c p) owner from)) (filter (is_neighbor rank (part_of (blocks_on c p) owner rank)) members)

abbrev pub all_told : (c : Case) → (p : Point) → (owner : BlockId → ℕ) → (members : List ℕ) → (rank : ℕ) → List StripValue
all_told c p owner members rank = heard c p owner members rank ++ strips_to rank (part_of (blocks_on c p) owner rank)

module _ (c : Case) (p : Point) (valid : IsValid c) (owner : BlockId → ℕ) where
  abbrev ids : List BlockId
  ids = ids_of (map_at c p)

  abbrev part : ℕ → List LinkedBlock
  part = part_of (blocks_on c p) owner

  -- a leaf of the model by its block
  leaf_in : (i : BlockId) → Contains ids i → Contains (map_at c p) (leaf_of (block_on c p i))
  leaf_in i has = leaf_from_cells_at (map_at c p) i (block_on c p i).cells (model_cells c p (block_on c p i) (block_is c p i valid has))

  pub leaf_is : (leaf : Leaf) → Contains (map_at c p) leaf → leaf_of (block_on c p leaf.0) ≡ leaf
  leaf_is leaf has =
      let its : Contains ids leaf.0 = Contains-map (λ (l : Leaf). l.0) (map_at c p) leaf has in
      let same : Some (block_on c p leaf.0).cells ≡ Some leaf.1 =
      sym (model_cells c p (block_on c p leaf.0) (block_is c p leaf.0 valid its)) ∙ cells_at-leaf (map_at c p) leaf.0 leaf.1 (model_map c p valid).rising has in
      let cells : (block_on c p leaf.0).cells ≡ leaf.1 = cc in
      ap (λ (g : Grid). (leaf.0, g)) cells

  -- what a rank's blocks tell those of a rank, in terms of the map
  one_told : (to : ℕ) (leaf : Leaf) → Contains (map_at c p) leaf
      → strips_of to (linked_on c p owner leaf.0) ≡ strips_from c.roots leaf (filter (λ i. owner i == to) (filter (touches c.roots leaf.0) (ids_of (map_at c p))))
  one_told to leaf has =
      let near : List BlockId = filter (touches c.roots leaf.0) (ids_of (map_at c p)) in
      ap (λ (l : Leaf). strips_from c.roots l (map (λ (link : Link). link.id) (filter (λ (link : Link). link.owner == to) (map (link_to owner) near)))) (leaf_is leaf has)
      ∙ ap (λ (ls : List Link). strips_from c.roots leaf (map (λ (link : Link). link.id) ls)) (filter_mapped (λ (link : Link). link.owner == to) (link_to owner) near)
      ∙ ap (strips_from c.roots leaf) (map_twice (λ (link : Link). link.id) (link_to owner) (λ i. i) (λ i. refl) (filter (λ i. owner i == to) near) ∙ map-id (filter (λ i. owner i == to) near))

  pub part_tells : (from to : ℕ) → strips_to to (part_of (blocks_on c p) owner from) ≡ told_strips c.roots (map_at c p) owner from to
  unfolding strips_to part_of blocks_on
  part_tells from to =
      let mine : List Leaf = filter (λ (l : Leaf). owner l.0 == from) (map_at c p) in
      let near : BlockId → List BlockId = λ i. filter (touches c.roots i) (ids_of (map_at c p)) in
      ap (λ (is : List BlockId). flat_map (strips_of to) (map (linked_on c p owner) is)) (filter_mapped (λ i. owner i == from) (λ (l : Leaf). l.0) (map_at c p))
      ∙ flat_map-map (strips_of to) (linked_on c p owner) (map (λ (l : Leaf). l.0) mine)
      ∙ flat_map-map (λ i. strips_of to (linked_on c p owner i)) (λ (l : Leaf). l.0) mine
      ∙ flat_map_each (λ (l : Leaf). strips_of to (linked_on c p owner l.0)) (λ (l : Leaf). strips_from c.roots l (filter (λ i. owner i == to) (near l.0))) mine
      (All-from_Contains (λ (l : Leaf). strips_of to (linked_on c p owner l.0) ≡ strips_from c.roots l (filter (λ i. owner i == to) (near l.0))) mine
      (λ l among. one_told to l (Contains-filter_cases (λ (l : Leaf). owner l.0 == from) (map_at c p) l among).0))
      ∙ links_tell c.roots c.side (map_at c p) near owner from to valid.sized.shape (model_map c p valid) (λ leaf has. refl)

  module _ (members : List ℕ) (rank : ℕ) (owned : AreAmong members (blocks_on c p) owner) where
    abbrev known : List StripValue
    known = all_told c p owner members rank

    -- those who tell a rank: its neighbours, and itself
    abbrev tellers : List ℕ
    tellers = filter (is_neighbor rank (part rank)) members ++ rank ∷ []

    known_is : known ≡ flat_map (λ from. strips_to rank (part from)) tellers
    known_is =
        let tells : ℕ → List StripValue = λ from. strips_to rank (part from) in
        let others : List ℕ = filter (is_neighbor rank (part rank)) members in
        sym (flat_map-append tells others (rank ∷ []) ∙ ap (λ (l : List StripValue). flat_map tells others ++ l) (append-nil (tells rank)))

    -- what they tell one of its blocks
    heard_is : (i : BlockId) → strips_for i known ≡ heard_by c.roots (map_at c p) owner tellers rank i
    heard_is i =
        let tells : ℕ → List StripValue = λ from. strips_to rank (part from) in
        ap (strips_for i) known_is
        ∙ filter_flat_map (λ (s : StripValue). id_eq s.target i) tells tellers
        ∙ flat_map_each (λ from. strips_for i (tells from)) (λ from. strips_for i (told_strips c.roots (map_at c p) owner from rank)) tellers
        (All-from_Contains (λ from. strips_for i (tells from) ≡ strips_for i (told_strips c.roots (map_at c p) owner from rank)) tellers (λ from has. ap (strips_for i) (part_tells from rank)))

    -- who owns a leaf that touches one of a rank's is that rank, or a neighbour
    neighbor_is : (i j : BlockId) → Contains ids i → (owner i == rank) ≡ true → Contains ids j → touches c.roots i j ≡ true → (owner j == rank) ≡ false
        → Contains (filter (is_neighbor rank (part rank)) members) (owner j)
    unfolding is_neighbor blocks_on
    neighbor_is i j leaf its other touch apart =
        let linked : list_any (λ j'. touches c.roots i j' && owner j' == owner j) ids ≡ true =
        any_from_passes (λ j'. touches c.roots i j' && owner j' == owner j) ids j other (and_from (touches c.roots i j) (owner j == owner j) touch (eq-eqb (owner j) (owner j) refl)) in
        let some = any_from_passes (λ i'. owner i' == rank && list_any (λ j'. touches c.roots i' j' && owner j' == owner j) ids) ids i leaf
        (and_from (owner i == rank) (list_any (λ j'. touches c.roots i j' && owner j' == owner j) ids) its linked) in
        let sees = and_from (not (owner j == rank)) _ (ap not apart) (linked_is c p owner rank (owner j) ∙ some) in
        Contains-filter (is_neighbor rank (part rank)) members (owner j) (member_contains members (owner j) (All-contains (λ i. is_member members (owner i) ≡ true) ids j owned other)) sees

    teller_is : (i : BlockId) → Contains ids i → (owner i == rank) ≡ true → (other : Leaf) (face : Face) → Contains (map_at c p) other
        → SharesFace c.roots face (box_of c.roots i) (box_of c.roots other.0) → Contains tellers (owner other.0)
    teller_is i leaf its other face has share = by (cases_Bool (owner other.0 == rank))
      where
        others : List ℕ
        others = filter (is_neighbor rank (part rank)) members

        are : ShareFace c.roots c.side (map_at c p) (leaf_of (block_on c p i)) face (other.0, other.1)
        are = record { domain = valid.sized.shape; map = model_map c p valid; own_in = leaf_in i leaf; other_in = has; share = share }

        by : ((owner other.0 == rank) ≡ true) ⊎ ((owner other.0 == rank) ≡ false) → Contains tellers (owner other.0)
        by (inl own) = subst (Contains tellers) (sym (eqb-true (owner other.0) rank own)) (Contains-append_right others (rank ∷ []) rank (Contains-head rank []))
        by (inr apart) = Contains-append_left others (rank ∷ []) (owner other.0)
            (neighbor_is i other.0 leaf its (Contains-map (λ (l : Leaf). l.0) (map_at c p) other has)
            ((touches_decides c.roots i other.0).1 (shares_touch c.roots c.side (map_at c p) i other.0 (block_on c p i).cells other.1 face are)) apart)

    -- so all strips for one of its blocks are there, and no others for it
    pub strips_are_all : (i : BlockId) → Contains ids i → (owner i == rank) ≡ true → AreStripsFor c.roots (map_at c p) i (strips_for i known)
    strips_are_all i leaf its =
        subst (AreStripsFor c.roots (map_at c p) i) (ap (λ r. heard_by c.roots (map_at c p) owner tellers r i) (eqb-true (owner i) rank its) ∙ sym (heard_is i))
        (told_are_all c.roots c.side (map_at c p) owner tellers i (block_on c p i).cells valid.sized.shape (model_map c p valid) (leaf_in i leaf) (teller_is i leaf its))
