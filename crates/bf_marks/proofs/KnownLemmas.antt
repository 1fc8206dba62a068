-- Marks by their fields.
use Rattle.std.proofs.Common.{◌≡◌, ℕ, ◌<◌, ◌==◌, Bool, true, false, ◌&&◌, ◌||◌, List, [], ◌∷◌, ◌⊎◌, inl, inr, Contains, map, length, replicate, refl, ap, ◌∙◌, subst, sym}
use Rattle.std.specs.Prelude.{Some, slice_get}
use Rattle.std.specs.List.{list_all, list_any}
use Rattle.std.proofs.Math.ListN.{get_or}
use Rattle.bf_id.specs.Id.{BlockId, child_of, children_of, level_of}
use Rattle.bf_id.proofs.Tilings.{Contains-cons_cases, Contains-none, Contains-child, Contains-child_cases}
use Rattle.bf_case.specs.Refinement.{is_among}
use Rattle.bf_case.proofs.MergingRule.{all_from_each}
use Rattle.bf_links.specs.declared.link.Link.{Link}
use Rattle.bf_marks.specs.FlagFields.{flagged_by, with_flag}
use Rattle.bf_marks.specs.Flags.{Flagged, is_flagged}
use Rattle.bf_marks.specs.Marks.{MarksValue, first_marks}
use Rattle.bf_marks.specs.KnownFields.{marks_in, IsAligned}
use Rattle.bf_marks.specs.Wishes.{is_coarsen, is_refine}
use Rattle.bf_marks.specs.declared.flags.Flags.{Flags}
use Rattle.bf_marks.specs.declared.known.Known.TheInside.{Inside}
use Rattle.bf_marks.specs.declared.wishes.Wish.{Wish}
use Rattle.bf_marks.proofs.ChosenLemmas.{chosen_mapped, flag_of, none_flagged}

-- the flags that a place has are those of its leaf, for any flags of the marks
pub flag_there : (k : Inside) (m : MarksValue) (own : MarksValue → List BlockId) (flags : List Bool) (place : ℕ) (flag : Bool) → marks_in k ≡ m → IsAligned k
    → own (marks_in k) ≡ with_flag k.leaves.items flags → length flags ≡ length k.leaves.items → place < length m.leaves → flag ≡ get_or flags place flag
    → (i : BlockId) → slice_get m.leaves place ≡ Some i → flag ≡ is_among (own m) i
flag_there k m own flags place flag is aligned are long below at =
    let P : MarksValue → Type 0 = λ n. (i : BlockId) → slice_get n.leaves place ≡ Some i → flag ≡ is_among (own n) i in
    let within : place < length k.leaves.items = subst (λ (n : MarksValue). place < length n.leaves) (sym is) below in
    let Q : List BlockId → Type 0 = λ ids. (i : BlockId) → slice_get k.leaves.items place ≡ Some i → flag ≡ is_among ids i in
    subst P is (subst Q (sym are) (flag_of k.leaves.items flags place flag aligned.rising long within at))

-- the fields of marks before the rounds
pub started : (own leaves : List BlockId) (wishes : List Wish) (coarser : List Bool) (refined may merging : Flags) (n : ℕ) → own ≡ leaves → coarser ≡ map is_coarsen wishes
    → refined.own.items ≡ map is_refine wishes → refined.heard.keys ≡ [] → may.own.items ≡ replicate n false → may.heard.keys ≡ [] → merging.own.items ≡ replicate n false
    → merging.heard.keys ≡ []
    → (let m : MarksValue = record { leaves = own; coarser = with_flag own coarser; refined = flagged_by own refined; may = flagged_by own may; merging = flagged_by own merging } in m)
    ≡ first_marks leaves wishes
started own leaves wishes coarser refined may merging n same is_coarse is_refined none_refined is_may none_may is_merging none_merging =
    let coarse = chosen_mapped is_coarsen leaves wishes in
    let fine = chosen_mapped is_refine leaves wishes in
    let none = none_flagged leaves n in
    cc

all_fails : {X : Type 0} (test : X → Bool) (xs : List X) (x : X) → Contains xs x → test x ≡ false → false ≡ list_all test xs
all_fails test [] x has fails = absurd (Contains-none x has)
all_fails test (y ∷ ys) x has fails = on (Contains-cons_cases y ys x has) (λ rest. all_fails test ys x rest fails)
  where
    later : (b : Bool) → false ≡ list_all test ys → false ≡ (b && list_all test ys)
    later true rest = rest
    later false rest = refl

    on : (x ≡ y) ⊎ Contains ys x → (Contains ys x → false ≡ list_all test ys) → false ≡ list_all test (y ∷ ys)
    on (inl same) deeper = let here : test y ≡ false = ap test (sym same) ∙ fails in rw here refl
    on (inr rest) deeper = later (test y) (deeper rest)

-- a test that fails at a child does not hold of all
pub child_fails : (test : BlockId → Bool) (p : BlockId) (o : ℕ) → o < 8 → test (child_of p o) ≡ false → false ≡ list_all test (children_of p)
child_fails test p o octal fails = all_fails test (children_of p) (child_of p o) (Contains-child p o octal) fails

pub children_pass : (test : BlockId → Bool) (p : BlockId) → ((o : ℕ) → o < 8 → test (child_of p o) ≡ true) → list_all test (children_of p) ≡ true
children_pass test p each = all_from_each test (children_of p) (λ j has. let of = Contains-child_cases p j has in subst (λ j. test j ≡ true) (sym of.2) (each of.0 of.1))

-- where no leaf has a flag no linked one has it
pub none_beside : (flagged : Flagged) (level : ℕ) (links : List Link) → flagged.own ≡ [] → flagged.heard ≡ []
    → false ≡ list_any (λ (link : Link). level_of link.id == level && is_flagged flagged link.id) links
none_beside flagged level [] unset unheard = refl
none_beside flagged level (link ∷ links) unset unheard = by (level_of link.id == level) (none_beside flagged level links unset unheard)
  where
    rest : Bool
    rest = list_any (λ (link : Link). level_of link.id == level && is_flagged flagged link.id) links

    unflagged_there : is_flagged flagged link.id ≡ false
    unflagged_there = rw (unset, unheard) refl

    by : (b : Bool) → false ≡ rest → false ≡ ((b && is_flagged flagged link.id) || rest)
    by true later = rw unflagged_there later
    by false later = later
