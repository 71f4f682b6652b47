-- Digits that are written from the last to the first.
use Rattle.std.proofs.Common.{◌≡◌, ◌<◌, ◌+◌, ◌-◌, ◌/◌, ◌%◌, ◌^◌, ℕ, suc, length, drop, set, sym, ap, ◌∙◌, arith}
use Rattle.std.specs.Char.{digit_char}
use Rattle.std.proofs.Math.Nat.{div-div-eq-div-mul}
use Rattle.std.proofs.lemmas.Nat.{pow-add}
use Rattle.std.proofs.lemmas.List.{drop_all, drop-set}
use Rattle.strip_text.specs.Field.{Field}
use Rattle.strip_proof.specs.Rows.{hex_digits}

-- what is left of a number without one digit more
pub one_digit_less : (number i rest : ℕ) → rest ≡ number / 16 ^ i → rest / 16 ≡ number / 16 ^ (i + 1)
one_digit_less number i rest is = ap (λ (n : ℕ). n / 16) is ∙ div-div-eq-div-mul number (16 ^ i) 16 ∙ ap (λ (n : ℕ). number / n) (sym (pow-add 16 i 1))

-- a digit written before the others
pub one_digit_more : (digits : Field) (number i rest digit : ℕ) → i < 16 → length digits ≡ 16 → drop (16 - i) digits ≡ hex_digits i number
    → rest ≡ number / 16 ^ i → digit ≡ digit_char (rest % 16) → drop (16 - (i + 1)) (set digits (15 - i) digit) ≡ hex_digits (i + 1) number
unfolding hex_digits
one_digit_more digits number i rest digit lt count others left is =
    let place : 16 - (i + 1) ≡ 15 - i = omega arith in
    let behind : 15 - i + 1 ≡ 16 - i = omega arith in
    let within : 15 - i < length digits = omega (arith, count) in
    let next : i + 1 ≡ suc i = omega arith in
    rw (place, next, drop-set digits (15 - i) digit within, behind, others, is, left)

-- before the first digit there is none
pub no_digits : (digits : Field) (number : ℕ) → length digits ≡ 16 → drop 16 digits ≡ hex_digits 0 number
unfolding hex_digits
no_digits digits number count = drop_all 16 digits (omega (arith, count))
