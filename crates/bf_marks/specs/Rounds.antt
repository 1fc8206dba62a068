-- The rounds: what becomes of the marks of leaves at the end of each, by the links of the own leaves in their order.
use Rattle.std.specs.Prelude.{ℕ, ◌+◌, ◌==◌, ◌&&◌, ◌||◌, not, nat_lt, Bool, List, filter, if◌then◌else◌}
use Rattle.std.specs.List.{list_all, list_any}
use Rattle.bf_id.specs.Id.{BlockId, children_of, level_of, parent_of}
use Rattle.bf_case.specs.Refinement.{is_among}
use Rattle.bf_links.specs.declared.link.Link.{Link}
use Rattle.bf_marks.specs.Flags.{Flagged, chosen, is_flagged}
use Rattle.bf_marks.specs.Marks.{MarksValue}

-- whether a leaf of these links is forced to be refined: a linked leaf one level finer is refined
abbrev pub is_forced : (refined : Flagged) → BlockId → List Link → Bool
is_forced refined i links = list_any (λ (link : Link). level_of link.id == level_of i + 1 && is_flagged refined link.id) links

-- a force round: a leaf is refined where it was, or where it is forced
abbrev pub forced_marks : (links : List (List Link)) → MarksValue → MarksValue
forced_marks links m = record m {
  refined = record m.refined { own = chosen (λ i links. is_among m.refined.own i || is_forced m.refined i links) m.leaves links };
}

-- whether no linked leaf of its level is refined
abbrev pub is_calm : (refined : Flagged) → BlockId → List Link → Bool
is_calm refined i links = not (list_any (λ (link : Link). level_of link.id == level_of i && is_flagged refined link.id) links)

-- whether each linked leaf one level finer merges
abbrev pub finer_merge : (merging : Flagged) → BlockId → List Link → Bool
finer_merge merging i links = list_all (λ (link : Link). not (level_of link.id == level_of i + 1) || is_flagged merging link.id) links

-- whether a leaf of these links may merge: it wishes to be coarsened and isn't refined, no leaf of its level beside it is refined, and each
-- one level finer merges
abbrev pub may_merge : MarksValue → BlockId → List Link → Bool
may_merge m i links = is_among m.coarser i && (not (is_among m.refined.own i) && (is_calm m.refined i links && finer_merge m.merging i links))

-- whether a leaf and its seven siblings all may merge; a root has no siblings
abbrev pub octet_may : (may : Flagged) → BlockId → Bool
octet_may may i = nat_lt 0 (level_of i) && list_all (is_flagged may) (children_of (parent_of i))

-- the two rounds of a level: which of its leaves may merge, and which do. The flags of other levels stay
abbrev pub may_marks : (level : ℕ) → (links : List (List Link)) → MarksValue → MarksValue
may_marks level links m = record m {
  may = record m.may { own = chosen (λ i links. if level_of i == level then may_merge m i links else is_among m.may.own i) m.leaves links };
}

abbrev pub merging_marks : (level : ℕ) → MarksValue → MarksValue
merging_marks level m = record m {
  merging = record m.merging { own = filter (λ i. if level_of i == level then octet_may m.may i else is_among m.merging.own i) m.leaves };
}
