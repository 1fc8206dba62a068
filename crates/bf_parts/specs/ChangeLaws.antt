-- Leaves that come of others: each new leaf begins where the leaf is of which it comes.
use Rattle.std.proofs.Common.{◌≡◌, ℕ, Bool, true, false, cond, List, [], ◌∷◌, ◌++◌, refl, ap, ◌∙◌}
use Rattle.std.specs.Prelude.{◌==◌, filter, All}
use Rattle.std.specs.List.{flat_map}
use Rattle.std.proofs.lemmas.List.Elements.{All-head, All-tail, filter-append}

-- of what comes of some keys, that of a rank is what comes of the rank's keys
pub heirs_filtered : {K J : Type 0} (heirs : K → List J) (owner : K → ℕ) (later : J → ℕ) (rank : ℕ) (keys : List K)
    → All (λ k. All (λ j. later j ≡ owner k) (heirs k)) keys
    → filter (λ j. later j == rank) (flat_map heirs keys) ≡ flat_map heirs (filter (λ k. owner k == rank) keys)
heirs_filtered heirs owner later rank [] same = refl
heirs_filtered {J = J} heirs owner later rank (k ∷ keys) same =
    filter-append (λ j. later j == rank) (heirs k) (flat_map heirs keys)
    ∙ ap (λ rest. filter (λ j. later j == rank) (heirs k) ++ rest) (heirs_filtered heirs owner later rank keys (All-tail (λ k. All (λ j. later j ≡ owner k) (heirs k)) k keys same))
    ∙ at (owner k == rank) (all_alike (heirs k) (All-head (λ k. All (λ j. later j ≡ owner k) (heirs k)) k keys same))
  where
    all_alike : (js : List J) → All (λ j. later j ≡ owner k) js → filter (λ j. later j == rank) js ≡ cond (owner k == rank) js []
    all_alike [] all = at_none (owner k == rank)
      where
        at_none : (b : Bool) → [] ≡ cond {A = List J} b [] []
        at_none true = refl
        at_none false = refl
    all_alike (j ∷ js) all =
        ap (λ o. cond (o == rank) (j ∷ filter (λ j. later j == rank) js) (filter (λ j. later j == rank) js)) (All-head (λ j. later j ≡ owner k) j js all)
        ∙ ap (λ rest. cond (owner k == rank) (j ∷ rest) rest) (all_alike js (All-tail (λ j. later j ≡ owner k) j js all))
        ∙ at_some (owner k == rank)
      where
        at_some : (b : Bool) → cond b (j ∷ cond b js []) (cond b js []) ≡ cond b (j ∷ js) []
        at_some true = refl
        at_some false = refl

    at : (b : Bool) → filter (λ j. later j == rank) (heirs k) ≡ cond b (heirs k) []
        → filter (λ j. later j == rank) (heirs k) ++ flat_map heirs (filter (λ k. owner k == rank) keys)
        ≡ flat_map heirs (cond b (k ∷ filter (λ k. owner k == rank) keys) (filter (λ k. owner k == rank) keys))
    at true its = ap (λ js. js ++ flat_map heirs (filter (λ k. owner k == rank) keys)) its
    at false none = ap (λ js. js ++ flat_map heirs (filter (λ k. owner k == rank) keys)) none
