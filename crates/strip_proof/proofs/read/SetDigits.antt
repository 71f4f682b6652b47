-- Hexadecimal digits, read from the first to the last.
use Rattle.std.proofs.Common.{◌≡◌, ◌≤◌, ◌<◌, ◌+◌, ◌*◌, ◌^◌, ℕ, suc, true, length, get_or, take, sym, ap, ◌∙◌, arith}
use Rattle.std.specs.List.{list_all}
use Rattle.std.specs.Char.{digit_value, is_ascii_hexdigit}
use Rattle.std.proofs.Math.Nat.{pow-le-pow_right, pow-succ'}
use Rattle.std.proofs.lemmas.Bool.Decides.{nat_tests}
use Rattle.std.proofs.lemmas.Int.Digits.{digits_value_more}
use Rattle.std.proofs.lemmas.List.Sums.{AllPass-from_list_all}
use Rattle.strip_text.specs.Field.{Field}
use Rattle.strip_proof.specs.Field.{set_of}

-- such a digit has a value below 16
pub digit_below : (byte : ℕ) → is_ascii_hexdigit byte ≡ true → digit_value byte < 16
digit_below byte is = grind (arith, nat_tests)

-- before the last of 16 digits there is room for one more
pub has_room : (set i count : ℕ) → set < 16 ^ i → i < count → count ≤ 16 → set * 16 + 15 < 2 ^ 64
has_room set i count small within short =
    let most : 16 ^ i ≤ 16 ^ 15 = pow-le-pow_right {n = 16} (omega arith) {i = i} {j = 15} (omega arith) in
    omega (arith, most)

pub stays_small : (set i digit : ℕ) → set < 16 ^ i → digit < 16 → set * 16 + digit < 16 ^ (i + 1)
stays_small set i digit small low =
    let next : i + 1 ≡ suc i = omega arith in
    let power : 16 ^ (i + 1) ≡ 16 * 16 ^ i = ap (λ (n : ℕ). 16 ^ n) next ∙ pow-succ' 16 i in
    omega (arith, power)

-- the digit at a place is one where all are
pub digit_at : (digits : Field) (i : ℕ) → list_all is_ascii_hexdigit digits ≡ true → i < length digits → is_ascii_hexdigit (get_or digits i 0) ≡ true
digit_at digits i all within = AllPass-from_list_all is_ascii_hexdigit digits all i 0 within

pub one_more_digit : (digits : Field) (i set digit : ℕ) → i < length digits → set ≡ set_of (take i digits) → digit ≡ digit_value (get_or digits i 0)
    → set * 16 + digit ≡ set_of (take (i + 1) digits)
one_more_digit digits i set digit within before is =
    (λ k. before k * 16 + is k) ∙ sym (digits_value_more 16 digits i within)
