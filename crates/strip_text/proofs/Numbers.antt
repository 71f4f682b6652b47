-- Numbers as they are written.
use Rattle.std.proofs.Common.{◌≡◌, ℕ, ◌+◌, ◌-◌, ◌*◌, ◌^◌, ◌<◌, ◌≤◌, Bool, true, ◌&&◌, List, [], ◌∷◌, refl, sym, subst, arith, rules}
use Rattle.std.specs.Fmt.{decimal}
use Rattle.std.specs.Str.{all_ascii_digits}
use Rattle.std.specs.Str.Parse.{digits_value}
use Rattle.std.proofs.lemmas.Bool.{le-leb, ne_eqb, not_from_false}
use Rattle.std.proofs.lemmas.Fmt.{decimal_is_IsNumeral}
use Rattle.std.proofs.lemmas.Str.Parse.{IsNumeralModel, numerals_by_fold}
use Rattle.strip_text.specs.Number.{is_number, number_of}

-- the number that digits write when they follow those of n
abbrev read_on : ℕ → List ℕ → ℕ
read_on n [] = n
read_on n (c ∷ cs) = read_on (10 * n + (c - 48)) cs

-- texts of digits, as the test has them
digits_model : IsNumeralModel (λ ds. all_ascii_digits ds ≡ true) (read_on 0)
digits_model = numerals_by_fold _ (search rules) read_on (search rules)

-- a number reads as what it was written of
pub number_of-decimal : (n : ℕ) → n < 2 ^ 64 → number_of (decimal n) ≡ n
number_of-decimal n lt = (decimal_is_IsNumeral n lt).1

-- four tests that are all passed
all_four : (a b c d : Bool) → a ≡ true → b ≡ true → c ≡ true → d ≡ true → (a && b && c && d) ≡ true
all_four a b c d p q r s = rw (p, q, r, s) refl

-- a number within the ends is such a field
pub is_number-decimal : (least most n : ℕ) → least ≤ n → n ≤ most → n < 2 ^ 64 → is_number least most (decimal n) ≡ true
is_number-decimal least most n low high lt =
    let numeral = decimal_is_IsNumeral n lt in
    all_four _ _ _ _ (not_from_false _ (ne_eqb _ 0 (λ none. omega (arith, numeral.0.0))))
    (digits_model.from (decimal n) numeral.0.1)
    (le-leb least (digits_value 10 (decimal n)) (subst (λ v. least ≤ v) (sym numeral.1) low))
    (le-leb (digits_value 10 (decimal n)) most (subst (λ v. v ≤ most) (sym numeral.1) high))
