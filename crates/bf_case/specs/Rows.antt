-- Small cases, and what their maps are.
use Rattle.std.specs.Prelude.{ℕ, ◌-◌, ◌%◌, ◌==◌, if◌then◌else◌, List, [], ◌∷◌, ◌++◌, codes, map, flat_map, slice_set}
use Rattle.std.specs.List.{range_with_len}
use Rattle.bf_id.specs.Id.{BlockId, root_id, child_of, children_of}
use Rattle.bf_cells.specs.Grid.{filled_with}
use Rattle.bf_case.specs.declared.case.Case.{Case}
use Rattle.bf_case.specs.declared.case.Fill.{Fill}
use Rattle.bf_case.specs.Map.{Leaf}

-- one root with two cells along its edge, nothing filled, no steps
abbrev pub smallest : Case
smallest = record {
  roots = record { nx = 1; ny = 1; nz = 1 };
  side = 2;
  levels = 0;
  ranks = 1;
  steps = 0;
  snapshot = 1;
  regrid = 0;
  refine = 4294967295;
  coarsen = 0;
  flow = 0;
  turns = 0;
  shift = 0;
  fills = [];
  dies = [];
  order = [];
}

-- the cells from one corner to the other, of one value
abbrev pub box : List ℕ → List ℕ → ℕ → Fill
box low high value = record { low = low; high = high; value = value }

-- the cell of one place
abbrev pub spot : List ℕ → ℕ → Fill
spot place value = box place place value

abbrev pub origin : List ℕ
origin = 0 ∷ 0 ∷ 0 ∷ []

abbrev pub far_corner : List ℕ
far_corner = 1 ∷ 1 ∷ 1 ∷ []

-- ---- one block

abbrev pub full_block : Case
full_block = record smallest { fills = box origin far_corner 8 ∷ [] }

abbrev pub full_block_text : List ℕ
full_block_text = codes "block 0\n8 8\n8 8\n8 8\n8 8\nend\n"

abbrev pub one_drop : Case
one_drop = record smallest { steps = 1; fills = spot origin 8 ∷ [] }

abbrev pub one_drop_text : List ℕ
one_drop_text = codes "block 0\n5 1\n1 0\n1 0\n0 0\nend\n"

abbrev pub brim_full : Case
brim_full = record smallest { steps = 128; fills = box origin far_corner 4294967295 ∷ [] }

abbrev pub brim_full_text : List ℕ
brim_full_text =
    codes "block 0\n4294967295 4294967295\n4294967295 4294967295\n"
    ++ codes "4294967295 4294967295\n4294967295 4294967295\nend\n"

-- ---- two levels

-- the spread of the first root is above `refine`, and that of the second is equal to it
abbrev pub two_levels : Case
two_levels = record smallest {
  roots = record { nx = 2; ny = 1; nz = 1 };
  levels = 1;
  steps = 1;
  regrid = 1;
  refine = 400;
  fills = spot origin 800 ∷ spot (3 ∷ 1 ∷ 1 ∷ []) 400 ∷ [];
}

abbrev pub two_levels_text : List ℕ
two_levels_text =
    codes "block 0.0\n800 700\n700 600\n700 600\n600 500\n"
    ++ (codes "block 0.1\n100 0\n100 0\n100 0\n100 0\n"
    ++ (codes "block 0.2\n100 100\n0 0\n100 100\n0 0\n"
    ++ (codes "block 0.3\n0 0\n0 0\n0 0\n0 0\n"
    ++ (codes "block 0.4\n100 100\n100 100\n0 0\n0 0\n"
    ++ (codes "block 0.5\n0 0\n0 0\n0 0\n0 0\n"
    ++ (codes "block 0.6\n0 0\n0 0\n0 0\n0 0\n"
    ++ (codes "block 0.7\n0 0\n0 0\n0 0\n0 0\n"
    ++ codes "block 1\n0 0\n0 50\n0 50\n50 250\nend\n")))))))

-- ---- merging

abbrev pub eight_merge : Case
eight_merge = record smallest {
  levels = 1;
  steps = 2;
  regrid = 1;
  refine = 14;
  coarsen = 6;
  fills = spot origin 15 ∷ [];
}

abbrev pub eight_merge_text : List ℕ
eight_merge_text = codes "block 0\n7 1\n1 0\n1 0\n0 0\nend\n"

-- the spread of one of the eight is above `coarsen`
abbrev pub seven_wish : Case
seven_wish = record eight_merge { coarsen = 5 }

abbrev pub seven_wish_text : List ℕ
seven_wish_text =
    codes "block 0.0\n14 11\n11 8\n11 8\n8 6\n"
    ++ (codes "block 0.1\n2 0\n2 0\n2 0\n1 0\n"
    ++ (codes "block 0.2\n2 2\n0 0\n2 1\n0 0\n"
    ++ (codes "block 0.3\n0 0\n0 0\n0 0\n0 0\n"
    ++ (codes "block 0.4\n2 2\n2 1\n0 0\n0 0\n"
    ++ (codes "block 0.5\n0 0\n0 0\n0 0\n0 0\n"
    ++ (codes "block 0.6\n0 0\n0 0\n0 0\n0 0\n"
    ++ codes "block 0.7\n0 0\n0 0\n0 0\n0 0\nend\n"))))))

-- ---- forced refinement

-- small leaves that wish to be refined touch greater ones that don't
abbrev pub forced : Case
forced = record smallest {
  roots = record { nx = 2; ny = 2; nz = 2 };
  levels = 2;
  steps = 2;
  regrid = 1;
  refine = 100;
  fills = box (2 ∷ 0 ∷ 0 ∷ []) (3 ∷ 1 ∷ 1 ∷ []) 1600 ∷ spot far_corner 104 ∷ [];
}

-- the roots but the first
abbrev pub other_roots : List BlockId
other_roots = map root_id (range_with_len 1 7)

-- the first root's children of odd octant, which lie towards the second root
abbrev pub odd_children : List BlockId
odd_children = map (child_of (root_id 0)) (1 ∷ 3 ∷ 5 ∷ 7 ∷ [])

-- they wish to be refined, and so do the second root, which is filled, and two roots that share a face with it
abbrev pub wishing : List BlockId
wishing = odd_children ++ map root_id (1 ∷ 3 ∷ 5 ∷ [])

-- the ids at the end
abbrev pub forced_ids : List BlockId
forced_ids =
    flat_map (λ octant. let child = child_of (root_id 0) octant in if octant % 2 == 0 then child ∷ [] else children_of child) (range_with_len 0 8)
    ++ flat_map children_of other_roots

-- ---- a map that is regridded

abbrev pub two_roots : Case
two_roots = record smallest { roots = record { nx = 2; ny = 1; nz = 1 }; levels = 2 }

-- a leaf whose cells are 0
abbrev pub blank : BlockId → Leaf
blank i = (i, filled_with 2 0)

-- the later children of the second root
abbrev pub later_children : List BlockId
later_children = map (child_of (root_id 1)) (range_with_len 1 7)

abbrev pub first_child : BlockId
first_child = child_of (root_id 1) 0

-- three levels, all cells 0
abbrev pub three_levels : List Leaf
three_levels = map blank (children_of (root_id 0) ++ (children_of first_child ++ later_children))

-- the same, with both octets merged
abbrev pub three_levels_merged : List Leaf
three_levels_merged = map blank (root_id 0 ∷ first_child ∷ later_children)

-- three levels, where the last of the finest leaves has a cell that is 1, by its place
abbrev pub spotted : ℕ → List Leaf
spotted place =
    map blank (children_of (root_id 0) ++ map (child_of first_child) (range_with_len 0 7))
    ++ (child_of first_child 7, record (filled_with 2 0) { values = slice_set (filled_with 2 0).values place 1 })
    ∷ map blank later_children

-- ---- refined leaves

-- two roots, with a finest level; a leaf whose spread is above 10 wishes to be refined
abbrev pub low_limit : ℕ → Case
low_limit finest = record two_roots { levels = finest; refine = 10 }

-- a leaf with one cell that is 20, the others being 0
abbrev pub peaked : BlockId → Leaf
peaked i = (i, record (filled_with 2 0) { values = slice_set (filled_with 2 0).values 0 20 })

-- both roots in octets: all cells are 0, but the second root's first child is peaked
abbrev pub peak_of_level_1 : List Leaf
peak_of_level_1 = map blank (children_of (root_id 0)) ++ peaked first_child ∷ map blank later_children

-- the peaked leaf is refined; it touches the first root's children of odd octant, and nothing merges
abbrev pub peak_of_level_1_ids : List BlockId
peak_of_level_1_ids = children_of (root_id 0) ++ (children_of first_child ++ later_children)

-- the same, with an octet in the place of that child, whose first is peaked
abbrev pub peak_of_level_2 : List Leaf
peak_of_level_2 =
    map blank (children_of (root_id 0))
    ++ peaked (child_of first_child 0) ∷ map blank (map (child_of first_child) (range_with_len 1 7) ++ later_children)

-- the one child of the first root that the peaked leaf touches
abbrev pub forced_child : BlockId
forced_child = child_of (root_id 0) 1

abbrev pub peak_of_level_2_ids : List BlockId
peak_of_level_2_ids =
    child_of (root_id 0) 0 ∷ children_of forced_child ++ (map (child_of (root_id 0)) (range_with_len 2 6)
    ++ (children_of (child_of first_child 0) ++ (map (child_of first_child) (range_with_len 1 7) ++ later_children)))

-- ---- chains

-- so many children of a block, from one on
abbrev pub children_from : BlockId → ℕ → List BlockId
children_from i first = map (child_of i) (range_with_len first (8 - first))

abbrev pub second_child : BlockId
second_child = child_of (root_id 1) 1

-- a root, a child of the next root and a child of that one's neighbour stand in a row; the last of them is peaked
abbrev pub chain_from_level_2 : List Leaf
chain_from_level_2 =
    blank (root_id 0) ∷ blank first_child ∷ peaked (child_of second_child 0)
    ∷ map blank (children_from second_child 1 ++ children_from (root_id 1) 2)

-- one root, with the finest level 4
abbrev pub deep_root : Case
deep_root = record (low_limit 4) { roots = record { nx = 1; ny = 1; nz = 1 } }

abbrev pub deep_child : BlockId
deep_child = child_of (child_of (root_id 0) 1) 1

-- the same, one level deeper
abbrev pub chain_from_level_3 : List Leaf
chain_from_level_3 =
    blank (child_of (root_id 0) 0) ∷ blank (child_of (child_of (root_id 0) 1) 0) ∷ peaked (child_of deep_child 0)
    ∷ map blank (children_from deep_child 1 ++ (children_from (child_of (root_id 0) 1) 2 ++ children_from (root_id 0) 2))
