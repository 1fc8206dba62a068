-- What a line without a cause is.
use Rattle.std.proofs.Common.{◌≡◌, ℕ, zero, suc, ◌<◌, Bool, true, false, cond, List, [], ◌∷◌, Option, Some, None, get_or, length, refl, arith}
use Rattle.std.specs.List.{find}
use Rattle.bf_text.specs.declared.code.Code.{Code}
use Rattle.bf_text.specs.declared.code.Code.TheVariants as code
use Rattle.bf_text.specs.Codes.{word_codes, number_codes}
use Rattle.bf_text.specs.Entries.{Entry, numbers_of}
use Rattle.bf_text.specs.Faults.{Known, has_word_cause, has_number_cause, either, cause_of}

-- a test that chooses nothing
none_of_cond : (b : Bool) (x : Code) (rest : Option Code) → cond b (Some x) rest ≡ None → (b ≡ false) × (rest ≡ None)
none_of_cond true x rest e = absurd (let no : Some x ≡ None = e in cc)
none_of_cond false x rest e = (refl, e)

pub clear_at : (p : Code → Bool) (xs : List Code) (k : ℕ) → find p xs ≡ None → k < length xs → p (get_or xs k code.NotText) ≡ false
clear_at p [] k e within = absurd (omega arith)
clear_at p (x ∷ xs) zero e within = (none_of_cond (p x) x (find p xs) e).0
clear_at p (x ∷ xs) (suc k) e within = clear_at p xs k (none_of_cond (p x) x (find p xs) e).1 (omega arith)

either_none : (a b : Option Code) → either a b ≡ None → (a ≡ None) × (b ≡ None)
either_none None b e = (refl, e)
either_none (Some x) b e = absurd (let no : Some x ≡ None = e in cc)

pub record IsClear (known : Known) (e : Entry) : Type 0 where
  pub words : find (has_word_cause known e) word_codes ≡ None
  pub numbers : find (has_number_cause known e.form (numbers_of e)) number_codes ≡ None

pub clear_parts : (known : Known) (e : Entry) → cause_of known e ≡ None → IsClear known e
clear_parts known e none =
    let parts = either_none (find (has_word_cause known e) word_codes) (find (has_number_cause known e.form (numbers_of e)) number_codes) none in
    record { words = parts.0; numbers = parts.1 }
