-- Fields that trimming leaves as they are.
use Rattle.std.proofs.Common.{◌≡◌, ℕ, ◌+◌, ◌-◌, ◌<◌, ◌%◌, ◌^◌, false, [], ◌∷◌, length, reverse, All, refl, sym, ap, ◌∙◌, subst, arith}
use Rattle.std.specs.Fmt.{decimal}
use Rattle.std.proofs.lemmas.Bool.{cond-false, or_from, ne_eqb}
use Rattle.std.proofs.lemmas.Fmt.{decimal_by_steps}
use Rattle.std.proofs.lemmas.List.{get_or-reverse, length-reverse, reverse-reverse}
use Rattle.std.proofs.lemmas.List.Elements.{All-nil, All-cons, All-head, All-push}
use Rattle.strip_text.specs.Field.{Field, is_blank, without_front_blanks, trimmed}

-- no byte of the field is a blank
abbrev pub HasNoBlank : Field → Type 0
HasNoBlank field = All (λ byte. is_blank byte ≡ false) field

-- without a blank in front nothing is taken off there
without_front_blanks-same : (field : Field) → HasNoBlank field → without_front_blanks field ≡ field
without_front_blanks-same [] none = refl
without_front_blanks-same (byte ∷ bytes) none =
    cond-false (is_blank byte) (without_front_blanks bytes) (byte ∷ bytes) (All-head (λ b. is_blank b ≡ false) byte bytes none)

-- the bytes from the last one on have no blank either
HasNoBlank-reverse : (field : Field) → HasNoBlank field → HasNoBlank (reverse field)
HasNoBlank-reverse field none k d lt =
    let within : k < length field = omega (arith, length-reverse field) in
    subst (λ byte. is_blank byte ≡ false) (sym (get_or-reverse field k d within)) (none (length field - 1 - k) d (omega arith))

-- a field without blanks isn't changed by trimming
pub trimmed-same : (field : Field) → HasNoBlank field → trimmed field ≡ field
trimmed-same field none =
    ap (λ f. reverse (without_front_blanks (reverse f))) (without_front_blanks-same field none)
    ∙ ap reverse (without_front_blanks-same (reverse field) (HasNoBlank-reverse field none)) ∙ reverse-reverse field

-- the byte of a decimal digit is no blank
is_blank-digit : (n : ℕ) → is_blank (48 + n) ≡ false
is_blank-digit n = or_from _ _ (ne_eqb (48 + n) 32 (λ e. omega arith)) (ne_eqb (48 + n) 9 (λ e. omega arith))

-- a number has no blank
pub HasNoBlank-decimal : (n : ℕ) → n < 2 ^ 64 → HasNoBlank (decimal n)
HasNoBlank-decimal n lt = decimal_by_steps (λ _ digits. HasNoBlank digits)
    (λ n lt. All-cons (λ b. is_blank b ≡ false) (48 + n) [] (is_blank-digit n) (All-nil (λ b. is_blank b ≡ false)))
    (λ n digits _ none. All-push (λ b. is_blank b ≡ false) digits (48 + n % 10) none (is_blank-digit (n % 10)))
    n lt

-- trimming changes no number
pub trimmed-decimal : (n : ℕ) → n < 2 ^ 64 → trimmed (decimal n) ≡ decimal n
trimmed-decimal n lt = trimmed-same (decimal n) (HasNoBlank-decimal n lt)
