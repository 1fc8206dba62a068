-- Which side is active after some changes, and what a restore then gives.
use Rattle.std.proofs.Common.{◌≡◌, ℕ, true, false, List, [], ◌∷◌, ◌++◌, refl, ap, ◌∙◌}
use Rattle.std.specs.List.{fold}
use Rattle.std.specs.List.Sorted.{IsStrictlyIncreasing}
use Rattle.std.proofs.lemmas.List.Sums.{fold-append}
use Rattle.bf_buddy.specs.Members.{is_member}
use Rattle.bf_program.specs.Restores.{heir_of}
use Rattle.bf_parts.specs.declared.side.Side.{Side}
use Rattle.bf_parts.specs.Leaves.{Kind, Leaves, AreLeaves, AreAmong, part_of, side_at}
use Rattle.bf_parts.specs.Merges.{regained}
use Rattle.bf_parts.specs.RestoreLaws.{regained_is}
use Rattle.bf_snap.specs.Buffers.{TwoSides, heard, written, cleared, swapped}
use Rattle.bf_snap.specs.Changes.{Change, after, after_all, has_swap}
use Rattle.bf_snap.specs.Changes.Change.{Hear, Write, Clear, Swap}

pub active_stays : {I : Type 0} (sides : TwoSides I) (changes : List (Change I)) → has_swap changes ≡ false → (after_all sides changes).active ≡ sides.active
unfolding after_all
active_stays sides [] none = refl
active_stays sides (Hear part ∷ rest) none = active_stays (heard part sides) rest none
active_stays sides (Write time homes source own ∷ rest) none = active_stays (written time homes source own sides) rest none
active_stays sides (Clear ∷ rest) none = active_stays (cleared sides) rest none
active_stays sides (Swap ∷ rest) none = absurd (let e : true ≡ false = none in cc)

pub active_was_spare : {I : Type 0} (sides : TwoSides I) (before later : List (Change I)) → has_swap later ≡ false
    → (after_all sides (before ++ Swap ∷ later)).active ≡ (after_all sides before).spare
unfolding after_all
active_was_spare {I = I} sides before later none =
    ap (λ (s : TwoSides I). s.active) (fold-append after sides before (Swap ∷ later)) ∙ active_stays (swapped (fold after sides before)) later none

pub regained_stays : {I : Type 0} (kind : Kind I) (sides : TwoSides I) (changes : List (Change I)) (shift : ℕ) (live : List ℕ) → has_swap changes ≡ false
    → regained kind (after_all sides changes).active shift live ≡ regained kind sides.active shift live
regained_stays {I = I} kind sides changes shift live none = ap (λ (side : Side I). regained kind side shift live) (active_stays sides changes none)

pub regained_new : {K I : Type 0} (kind : Kind I) (leaves : Leaves K I) → AreLeaves kind leaves → (time : ℕ) (homes live : List ℕ) (shift : ℕ) (home_of : K → ℕ) (rank : ℕ)
    → IsStrictlyIncreasing homes → is_member homes rank ≡ true → is_member live rank ≡ true → AreAmong homes leaves home_of
    → (sides : TwoSides I) (before later : List (Change I)) → has_swap later ≡ false
    → (after_all sides before).spare ≡ side_at time homes shift leaves home_of rank
    → regained kind (after_all sides (before ++ Swap ∷ later)).active shift live ≡ part_of leaves (λ key. heir_of homes live shift (home_of key)) rank
regained_new {I = I} kind leaves are time homes live shift home_of rank rise is_home is_live housed sides before later none new =
    ap (λ (side : Side I). regained kind side shift live) (active_was_spare sides before later none ∙ new)
    ∙ regained_is kind leaves are homes live shift home_of rank rise is_home is_live housed time
