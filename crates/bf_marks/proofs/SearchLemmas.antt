-- Looking for an id among rising ones.
use Rattle.std.proofs.Common.{◌≡◌, ℕ, ◌<◌, true, false, List, length, get_or, refl, ap}
use Rattle.std.specs.Prelude.{Ok, Err, AllPairs}
use Rattle.std.specs.List.{list_any}
use Rattle.std.specs.List.Sorted.{IsBinarySearchResult, IsSearchInRange}
use Rattle.std.specs.BTreeMap.{is_at}
use Rattle.std.specs.Ordering.{is_eq}
use Rattle.std.specs.declared.cmp.Ordering.{Ordering}
use Rattle.std.specs.declared.cmp.Ordering.TheVariants.{Less, Equal, Greater}
use Rattle.std.proofs.lemmas.Bool.{false_from_ne_true}
use Rattle.bf_lemmas.proofs.Tests.{same_tests}
use Rattle.bf_id.specs.Id.{BlockId, id_cmp, id_eq}
use Rattle.bf_id.specs.Walk.{IsBefore}
use Rattle.bf_id.proofs.Boxes.{id_eq_is_equal}
use Rattle.bf_id.proofs.Rising.{id_cmp-exact}
use Rattle.bf_case.specs.Refinement.{is_among}
use Rattle.bf_links.proofs.SearchLemmas.{searched}
use Rattle.bf_marks.proofs.ChosenLemmas.{among_has}

-- what a search found is at its place
pub found_at : (ids : List BlockId) (k : ℕ) (x : BlockId) → AllPairs IsBefore ids → IsSearchInRange (Ok k) (length ids) → IsBinarySearchResult (λ y. id_cmp y x) ids (Ok k)
    → (k < length ids) × (get_or ids k x ≡ x)
found_at ids k x rise within at = let is = searched (λ (i : BlockId). i) ids x (Ok k) rise within at in (is.0, is.1 x)

-- and what it did not find is not there
pub not_found : (ids : List BlockId) (k : ℕ) (x : BlockId) → AllPairs IsBefore ids → IsSearchInRange (Err k) (length ids) → IsBinarySearchResult (λ y. id_cmp y x) ids (Err k)
    → is_among ids x ≡ false
not_found ids k x rise within at =
    let none = searched (λ (i : BlockId). i) ids x (Err k) rise within at in
    false_from_ne_true (is_among ids x) (λ among. let has = among_has ids x among in none has.0 x has.1 has.2)

equal_is : (o : Ordering) → is_eq o ≡ true → o ≡ Equal
equal_is Less h = absurd (cc)
equal_is Equal h = refl
equal_is Greater h = absurd (cc)

-- two ids are equal by their order where they are equal
same_test : (x y : BlockId) → is_at (id_cmp x) y ≡ id_eq x y
same_test x y = same_tests (is_at (id_cmp x) y) (id_eq x y)
    (λ at. (id_eq_is_equal x y).1 ((id_cmp-exact x y).0 (equal_is (id_cmp x y) at)))
    (λ same. ap is_eq ((id_cmp-exact x y).1 ((id_eq_is_equal x y).0 same)))

-- a set is asked by the order of ids
pub among_keys : (keys : List BlockId) (x : BlockId) → list_any (is_at (id_cmp x)) keys ≡ is_among keys x
among_keys keys x = λ i. list_any (λ y. same_test x y i) keys
