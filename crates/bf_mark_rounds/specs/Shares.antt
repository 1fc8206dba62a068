-- What all leaves have for flags, and a rank's share of it.
use Rattle.std.specs.Prelude.{ℕ, zero, suc, ◌+◌, ◌<◌, Contains, IsTrue, ◌==◌, ◌&&◌, ◌||◌, not, nat_lt, Bool, List, [], filter, map}
use Rattle.std.specs.List.{list_any, list_all}
use Rattle.bf_id.specs.declared.shape.Shape.{Shape}
use Rattle.bf_id.specs.Id.{BlockId, level_of, parent_of, touches}
use Rattle.bf_case.specs.Merging.{merges}
use Rattle.bf_case.specs.Refinement.{is_among, refined_ids, refined_within}
use Rattle.bf_case.specs.Wishes.{Wishes}
use Rattle.bf_links.specs.Links.{links_of}
use Rattle.bf_links.specs.declared.link.Link.{Link}
use Rattle.bf_marks.specs.Marks.{MarksValue}
use Rattle.bf_marks.specs.Wishes.{is_coarsen, wish_of}
use Rattle.bf_mark_rounds.specs.Neighbors.{is_own, is_other, is_neighbors}

-- the leaves that are refined, that may merge, and that merge
pub record Marked : Type 0 where
  pub refined : List BlockId
  pub may : List BlockId
  pub merging : List BlockId

-- no leaf of the finest level wishes to be refined
abbrev pub StopsAbove : List BlockId → Wishes → (levels : ℕ) → Type 0
StopsAbove ids w levels = (i : BlockId) → Contains ids i → IsTrue (w.finer i) → level_of i < levels

-- the level whose leaves are asked next whether they may merge, once the merging ones deeper than a level are known
abbrev pub next_level : (level : ℕ) → ℕ
next_level zero = zero
next_level (suc before) = before

-- what a rank has to do with: its number, the links of its own leaves in their order, and the marks of these
pub record Marking : Type 0 where
  pub rank : ℕ
  pub links : List (List Link)
  pub marks : MarksValue

module _ (shape : Shape) (ids : List BlockId) (w : Wishes) where
  module _ (refined : List BlockId) where
    -- whether a leaf may merge: it wishes to be coarsened and isn't refined, no leaf of its level beside it is refined, and each one level
    -- finer beside it merges
    abbrev pub may_merge_in : BlockId → Bool
    may_merge_in i =
        w.coarser i && (not (is_among refined i)
        && (not (list_any (λ j. touches shape i j && (level_of j == level_of i && is_among refined j)) ids)
        && list_all (λ j. not (touches shape i j) || (not (level_of j == level_of i + 1) || merges shape ids w refined (parent_of j))) ids))

    -- the leaves deeper than a level that may merge, and those that do
    abbrev pub mays_below : (level : ℕ) → List BlockId
    mays_below level = filter (λ i. nat_lt level (level_of i) && may_merge_in i) ids

    abbrev pub merging_below : (level : ℕ) → List BlockId
    merging_below level = filter (λ i. nat_lt level (level_of i) && merges shape ids w refined (parent_of i)) ids

  -- the flags after so many force rounds: those leaves are refined to which a chain of at most so many steps leads
  abbrev pub forced_after : (rounds : ℕ) → Marked
  forced_after rounds = record { refined = refined_within shape ids w rounds; may = []; merging = [] }

  -- the leaves of which it was told in them that they are refined: those that were so one round before
  abbrev pub refined_before : (rounds : ℕ) → List BlockId
  refined_before zero = []
  refined_before (suc before) = refined_within shape ids w before

  abbrev pub told_after : (rounds : ℕ) → Marked
  told_after rounds = record { refined = refined_before rounds; may = []; merging = [] }

  -- the flags once it is known which leaves deeper than one level may merge, and which deeper than another do
  abbrev pub found_below : (may merging : ℕ) → Marked
  found_below may merging = record {
    refined = refined_ids shape ids w;
    may = mays_below (refined_ids shape ids w) may;
    merging = merging_below (refined_ids shape ids w) merging;
  }

  module _ (owner : BlockId → ℕ) where
    -- a rank's share: the flags of its own leaves, and of what was told those of refined leaves that touch one of its own, and of neighbours' leaves
    -- that may merge and that merge
    abbrev pub share : (told all : Marked) → (rank : ℕ) → MarksValue
    share told all rank = record {
      leaves = filter (is_own owner rank) ids;
      coarser = filter (λ i. is_coarsen (wish_of w i)) (filter (is_own owner rank) ids);
      refined = record { own = filter (is_own owner rank) all.refined; heard = filter (is_other shape ids owner rank) told.refined };
      may = record { own = filter (is_own owner rank) all.may; heard = filter (is_neighbors shape ids owner rank) told.may };
      merging = record { own = filter (is_own owner rank) all.merging; heard = filter (is_neighbors shape ids owner rank) told.merging };
    }

    abbrev pub marking_of : MarksValue → (rank : ℕ) → Marking
    marking_of marks rank = record { rank = rank; links = map (links_of shape ids owner) (filter (is_own owner rank) ids); marks = marks }

    -- a rank's share with what it needs for the rounds
    abbrev pub marking_at : (told all : Marked) → (rank : ℕ) → Marking
    marking_at told all rank = marking_of (share told all rank) rank
