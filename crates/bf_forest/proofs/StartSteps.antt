-- The loops that find out which ranks begin with a block.
use Rattle.std.proofs.Common.{◌≡◌, ℕ, ◌+◌, ◌<◌, ◌≤◌, Bool, true, false, List, refl, ap, sym, ◌∙◌, arith}
use Rattle.std.specs.Prelude.{◌==◌, not, filter}
use Rattle.std.specs.List.{list_any, range_with_len}
use Rattle.std.proofs.lemmas.Bool.{eqb-true, eq-eqb}
use Rattle.std.proofs.lemmas.Bool.Decides.{nat_tests}
use Rattle.bf_id.specs.Shape.{root_count}
use Rattle.bf_case.specs.declared.case.Case.{Case}
use Rattle.bf_case.specs.Case.{first_rank_of}
use Rattle.bf_buddy.proofs.MemberLemmas.{all_members, any_range, range_any, range_within}
use Rattle.bf_lemmas.proofs.Passes.{passed_below, passed_start, passed_stays, passed_goes, passed_end}
use Rattle.bf_forest.specs.Starts.{starts}

-- whether one of the roots below one begins at a rank
unfoldable pub has_below : Case → (rank root : ℕ) → Bool
has_below c rank root = list_any (λ k. first_rank_of c k == rank) (range_with_len 0 root)

pub none_below : (c : Case) (rank : ℕ) → has_below c rank 0 ≡ false
unfolding has_below
none_below c rank = refl

pub found_below : (c : Case) (rank root : ℕ) → root < root_count c.roots → first_rank_of c root ≡ rank → starts c rank ≡ true
unfolding starts
found_below c rank root within its =
    range_any (λ k. first_rank_of c k == rank) 0 (root_count c.roots) root (omega arith) (omega arith) (eq-eqb (first_rank_of c root) rank its)

not_there : (c : Case) (rank root k : ℕ) → has_below c rank root ≡ false → (first_rank_of c root == rank) ≡ false
    → k < root + 1 → first_rank_of c k ≡ rank → true ≡ false
unfolding has_below
not_there c rank root k none other below its = at (k == root) refl
  where
    at : (same : Bool) → (k == root) ≡ same → true ≡ false
    at true same =
        sym (eq-eqb (first_rank_of c root) rank (ap (first_rank_of c) (sym (eqb-true k root same)) ∙ its)) ∙ other
    at false differ =
        let before : k < root = grind (arith, nat_tests) in
        sym (range_any (λ k. first_rank_of c k == rank) 0 root k (omega arith) (omega arith) (eq-eqb (first_rank_of c k) rank its)) ∙ none

pub none_more : (c : Case) (rank root : ℕ) → has_below c rank root ≡ false → (first_rank_of c root == rank) ≡ false → has_below c rank (root + 1) ≡ false
unfolding has_below
none_more c rank root none other = at (list_any (λ k. first_rank_of c k == rank) (range_with_len 0 (root + 1))) refl
  where
    at : (b : Bool) → list_any (λ k. first_rank_of c k == rank) (range_with_len 0 (root + 1)) ≡ b → b ≡ false
    at false some = refl
    at true some =
        let found = any_range (λ k. first_rank_of c k == rank) 0 (root + 1) some in
        let below : found.0 < 0 + (root + 1) = found.1.0 in
        not_there c rank root found.0 none other (omega arith) (eqb-true (first_rank_of c found.0) rank found.1.1)

pub none_at_all : (c : Case) (rank root : ℕ) → has_below c rank root ≡ false → root ≡ root_count c.roots → starts c rank ≡ false
unfolding has_below starts
none_at_all c rank root none end = ap (λ n. list_any (λ k. first_rank_of c k == rank) (range_with_len 0 n)) (sym end) ∙ none

-- the ranks at which a root begins, and those from one on
unfoldable pub laid_below : Case → (rank : ℕ) → List ℕ
laid_below c rank = passed_below (starts c) (range_with_len 0 c.ranks) rank

pub laid_start : (c : Case) → range_with_len 0 c.ranks ≡ laid_below c 0
unfolding laid_below
laid_start c = passed_start (starts c) (range_with_len 0 c.ranks)

pub laid_stays : (c : Case) (rank : ℕ) → starts c rank ≡ true → laid_below c rank ≡ laid_below c (rank + 1)
unfolding laid_below
laid_stays c rank filled = passed_stays (starts c) (range_with_len 0 c.ranks) rank filled

pub laid_goes : (c : Case) (rank : ℕ) → starts c rank ≡ false
    → filter (λ member. not (member == rank)) (laid_below c rank) ≡ laid_below c (rank + 1)
unfolding laid_below
laid_goes c rank empty = passed_goes (starts c) (range_with_len 0 c.ranks) rank empty

pub laid_end : (c : Case) (rank : ℕ) → c.ranks ≤ rank → laid_below c rank ≡ filter (starts c) (range_with_len 0 c.ranks)
unfolding laid_below
laid_end c rank past =
    passed_end (starts c) c.ranks rank (range_with_len 0 c.ranks)
    (all_members (λ r. r < c.ranks) (range_with_len 0 c.ranks) (λ r is_in. let below : r < 0 + c.ranks = range_within 0 c.ranks r is_in in omega arith)) past

pub ruleset start_steps = (none_below, found_below, none_more, none_at_all, laid_start, laid_stays, laid_goes, laid_end)
