-- What the tests of a field's bytes say.
use Rattle.std.proofs.Common.{◌≡◌, ◌<◌, ◌≤◌, ◌^◌, ℕ, zero, suc, Bool, true, false, not, ◌&&◌, List, [], ◌∷◌, length, get_or, map, Some, None, Err, refl, ap, inl, inr, arith, eqb}
use Rattle.std.specs.List.{list_all}
use Rattle.std.specs.Char.{is_ascii_digit}
use Rattle.std.specs.Str.{all_ascii_digits, is_utf8, IsUtf8}
use Rattle.std.specs.Str.Parse.{digits_value, ParsesUnsigned}
use Rattle.std.proofs.lemmas.Bool.{cases_Bool, cases_lt, and_left, and_right, lt-leb}
use Rattle.std.proofs.lemmas.Bool.Decides.{nat_tests}
use Rattle.std.proofs.lemmas.Str.{IsUtf8-from_is_utf8, IsUtf8-from_ascii}
use Rattle.std.proofs.lemmas.Str.Parse.{IsNumeralModel, numerals_by_value, tells_all_ascii_digits, parse_digits}
use Rattle.csv.specs.Records.{field_at}
use Rattle.strip_text.specs.Field.{Field, trimmed}
use Rattle.strip_text.specs.Number.{is_number}

-- the digits' test over all bytes
pub all_ascii_digits-list_all : (bytes : List ℕ) → list_all is_ascii_digit bytes ≡ all_ascii_digits bytes
all_ascii_digits-list_all [] = refl
all_ascii_digits-list_all (byte ∷ bytes) = ap (λ b. is_ascii_digit byte && b) (all_ascii_digits-list_all bytes)

-- both tests hold
pub and-left : (a b : Bool) → (a && b) ≡ true → a ≡ true
and-left true b both = refl
and-left false b both = cc

pub and-right : (a b : Bool) → (a && b) ≡ true → b ≡ true
and-right true b both = both
and-right false b both = cc

-- a text of digits is text
digit_below : (byte : ℕ) → is_ascii_digit byte ≡ true → byte < 128
digit_below byte is = grind (arith, nat_tests)

digits_below : (bytes : List ℕ) (i : ℕ) → all_ascii_digits bytes ≡ true → get_or bytes i 0 < 128
digits_below [] i all = omega arith
digits_below (byte ∷ bytes) zero all = digit_below byte (and-left (is_ascii_digit byte) _ all)
digits_below (byte ∷ bytes) (suc i) all = digits_below bytes i (and-right (is_ascii_digit byte) _ all)

pub digits_are_text : (bytes : List ℕ) → all_ascii_digits bytes ≡ true → IsUtf8 bytes
digits_are_text bytes all = IsUtf8-from_ascii bytes (λ i. digits_below bytes i all)

-- the words of `parse` at digits
own : IsNumeralModel (λ bytes. all_ascii_digits bytes ≡ true) (digits_value 10)
own = numerals_by_value (λ bytes. all_ascii_digits bytes ≡ true) tells_all_ascii_digits

empty_fails : (n : ℕ) → n ≡ 0 → not (eqb n 0) ≡ false
empty_fails n none = rw none refl

too_great_a_number : (bytes : List ℕ) (least most : ℕ) → most < digits_value 10 bytes → is_number least most bytes ≡ false
too_great_a_number bytes least most less = and_right _ _ (lt-leb (digits_value 10 bytes) most less)

nothing_spelled : (bytes : List ℕ) (least most : ℕ) → length bytes ≡ 0 → is_number least most bytes ≡ false
nothing_spelled bytes least most none = and_left _ _ (and_left _ _ (and_left _ _ (empty_fails (length bytes) none)))

-- digits that are refused spell no number, or one that is too great
pub not_number : {E : Type 0} (bytes : List ℕ) (least most : ℕ) (e : E) → most < 2 ^ 64 → all_ascii_digits bytes ≡ true
    → ParsesUnsigned 64 10 bytes (Err e) → is_number least most bytes ≡ false
not_number bytes least most e small all refused =
    let refuted : ¬ ((0 < length bytes) × (digits_value 10 bytes < 2 ^ 64)) = parse_digits own 64 bytes (Err e) refused all in
    elim (cases_lt 0 (length bytes)) [
      | inl some ↦ (let great : 2 ^ 64 ≤ digits_value 10 bytes = too_great (digits_value 10 bytes) (λ small_value. refuted (some, small_value)) in
          too_great_a_number bytes least most (omega (arith, great)))
      | inr none ↦ nothing_spelled bytes least most (omega arith)
    ]
  where
    too_great : (n : ℕ) → ¬ (n < 2 ^ 64) → 2 ^ 64 ≤ n
    too_great n past = elim (cases_lt n (2 ^ 64)) [ inl less ↦ absurd (past less) | inr great ↦ great ]

-- bytes that are no text fail the test
pub not_text : (bytes : List ℕ) → ¬ (IsUtf8 bytes) → is_utf8 bytes ≡ false
not_text bytes none = elim (cases_Bool (is_utf8 bytes)) [ inl passes ↦ absurd (none (IsUtf8-from_is_utf8 bytes passes)) | inr fails ↦ fails ]

-- the field at a place of a record, trimmed
pub trimmed_at : (fields : List Field) (place : ℕ) (field : Field) → Some field ≡ field_at fields place → get_or (map trimmed fields) place [] ≡ trimmed field
unfolding field_at
trimmed_at [] place field is = cc
trimmed_at (other ∷ fields) zero field is = cc
trimmed_at (other ∷ fields) (suc place) field is = trimmed_at fields place field is

pub nothing_past : (fields : List Field) (place : ℕ) → None ≡ field_at fields place → get_or (map trimmed fields) place [] ≡ []
unfolding field_at
nothing_past [] place is = refl
nothing_past (other ∷ fields) zero is = cc
nothing_past (other ∷ fields) (suc place) is = nothing_past fields place is
