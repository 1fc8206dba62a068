-- Appending a text piece by piece.
use Rattle.std.proofs.Common.{◌≡◌, ℕ, ◌+◌, List, [], ◌++◌, take, drop, Option, None, Some, refl, sym, ◌∙◌, ap, append_assoc}
use Rattle.std.proofs.Math.Seq.{take-add}
use Rattle.std.proofs.lemmas.List.{append-nil}
use Rattle.bf_edge.specs.Sink.{appended}

pub appended-nil : (written : Option (List ℕ)) → appended written [] ≡ written
appended-nil None = refl
appended-nil (Some taken) = ap Some (append-nil taken)

pub appended-append : (written : Option (List ℕ)) (first second : List ℕ) → appended (appended written first) second ≡ appended written (first ++ second)
appended-append None first second = refl
appended-append (Some taken) first second = ap Some (append_assoc taken first second)

-- one more piece, of n bytes, after the first k
pub appended-take_more : (before now after : Option (List ℕ)) (bytes rest : List ℕ) (k n : ℕ) → now ≡ appended before (take k bytes)
    → rest ≡ drop k bytes → after ≡ appended now (take n rest) → after ≡ appended before (take (k + n) bytes)
appended-take_more before now after bytes rest k n so_far is more =
    more ∙ (ap (λ taken. appended taken (take n rest)) so_far
    ∙ (appended-append before (take k bytes) (take n rest)
    ∙ ap (appended before) (ap (λ xs. take k bytes ++ take n xs) is ∙ sym (take-add k n bytes))))
