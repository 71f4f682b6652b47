-- Fields of digits are written without quotes.
use Rattle.std.proofs.Common.{◌≡◌, ◌≤◌, ◌^◌, ◌/◌, ◌%◌, ◌==◌, ℕ, zero, suc, false, inl, inr, List, [], ◌∷◌, ◌++◌, codes, refl, append_assoc, arith}
use Rattle.std.specs.Char.{digit_char}
use Rattle.std.specs.Fmt.{decimal, digits, digits_onto, digit_glyph}
use Rattle.std.proofs.lemmas.Bool.{cases_Bool, ne_eqb}
use Rattle.std.proofs.lemmas.Bool.Decides.{nat_tests}
use Rattle.std.proofs.lemmas.List.{append-nil}
use Rattle.csv.specs.Writing.{default_writer, needs_byte, needs_quotes, fields_text, is_blank}
use Rattle.strip_text.specs.Field.{Field}
use Rattle.strip_text.specs.Rows.{csv_row}
use Rattle.strip_proof.specs.Rows.{hex_digits}

-- no byte from the first digit on calls for quotes
plain_byte : (byte : ℕ) → 48 ≤ byte → needs_byte default_writer byte ≡ false
plain_byte byte digit =
    rw (
      ne_eqb byte 44 (λ is. omega arith),
      ne_eqb byte 34 (λ is. omega arith),
      ne_eqb byte 13 (λ is. omega arith),
      ne_eqb byte 10 (λ is. omega arith),
    ) refl

late_char : (digit : ℕ) → 48 ≤ digit_char digit
late_char digit = grind (arith, nat_tests)

late_glyph : (digit : ℕ) → 48 ≤ digit_glyph false digit
late_glyph digit = grind (arith, nat_tests)

plain_glyph : (digit : ℕ) → needs_byte default_writer (digit_glyph false digit) ≡ false
plain_glyph digit = plain_byte (digit_glyph false digit) (late_glyph digit)

one_more : (byte : ℕ) (field : Field) → needs_byte default_writer byte ≡ false → needs_quotes default_writer field ≡ false
    → needs_quotes default_writer (byte ∷ field) ≡ false
one_more byte field first rest = rw (first, rest) refl

pub plain-hex_digits : (count number : ℕ) → needs_quotes default_writer (hex_digits count number) ≡ false
unfolding hex_digits
plain-hex_digits zero number = refl
plain-hex_digits (suc count) number =
    let digit : ℕ = number / 16 ^ count % 16 in
    one_more (digit_char digit) (hex_digits count number) (plain_byte (digit_char digit) (late_char digit)) (plain-hex_digits count number)

plain-digits_onto : (most base number : ℕ) (others : Field) → needs_quotes default_writer others ≡ false
    → needs_quotes default_writer (digits_onto most base false number others) ≡ false
plain-digits_onto zero base number others plain = plain
plain-digits_onto (suc most) base number others plain =
    let next = one_more (digit_glyph false (number % base)) others (plain_glyph (number % base)) plain in
    elim (cases_Bool (number / base == 0)) [
      | inl all ↦ rw all next
      | inr some ↦ rw some (plain-digits_onto most base (number / base) (digit_glyph false (number % base) ∷ others) next)
    ]

pub plain-decimal : (number : ℕ) → needs_quotes default_writer (decimal number) ≡ false
unfolding digits
plain-decimal number = plain-digits_onto 64 10 number [] refl

regrouped : (word set bound end : List ℕ) → (word ++ (44 ∷ (set ++ (44 ∷ (bound ++ []))))) ++ end ≡ word ++ (44 ∷ (set ++ (44 ∷ (bound ++ end))))
regrouped word set bound end = simp (append_assoc, append-nil)

-- the row of a line, where its two fields are written as they are
pub line_written : (set bound : Field) → needs_quotes default_writer set ≡ false → needs_quotes default_writer bound ≡ false
    → csv_row (codes "line" ∷ set ∷ bound ∷ []) ≡ codes "line," ++ (set ++ (codes "," ++ (bound ++ codes "\n")))
unfolding fields_text is_blank
line_written set bound plain_set plain_bound = rw (plain_set, plain_bound) (regrouped (codes "line") set bound (codes "\n"))
