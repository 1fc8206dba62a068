-- What digits write.
use Rattle.std.proofs.Common.{◌≡◌, ℕ, ◌+◌, ◌-◌, ◌*◌, ◌^◌, ◌<◌, ◌≤◌, true, List, length, take, get_or, min, arith}
use Rattle.std.specs.Char.{is_ascii_digit, digit_value}
use Rattle.std.specs.List.{list_all}
use Rattle.std.specs.Str.Parse.{digits_value}
use Rattle.std.proofs.Common.{rules, tests}
use Rattle.std.proofs.lemmas.Int.Digits.{digits_value_more}
use Rattle.std.proofs.lemmas.List.Sums.{AllPass-from_list_all}
use Rattle.std.proofs.lemmas.Str.{digit_value_digit}

digit_bounds : (b : ℕ) → is_ascii_digit b ≡ true → (48 ≤ b) × (b ≤ 57)
digit_bounds b e = search (rules, tests)

digit_is : (b : ℕ) → is_ascii_digit b ≡ true → digit_value b ≡ b - 48
digit_is b e =
    let bounds = digit_bounds b e in
    let v = digit_value_digit b bounds in
    omega arith

-- one digit more, where a large number stays as it is
pub capped_more : (digits : List ℕ) (i value next : ℕ) → i < length digits → list_all is_ascii_digit digits ≡ true
    → value ≡ min (2 ^ 32) (digits_value 10 (take i digits)) → next ≡ min (value * 10 + (get_or digits i 0 - 48)) (2 ^ 32)
    → next ≡ min (2 ^ 32) (digits_value 10 (take (i + 1) digits))
capped_more digits i value next within all is more =
    let digit = digit_is (get_or digits i 0) (AllPass-from_list_all is_ascii_digit digits all i 0 within) in
    let longer = digits_value_more 10 digits i within in
    omega arith
