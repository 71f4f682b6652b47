-- What the digits of a set's field spell.
use Rattle.std.proofs.Common.{◌≡◌, ◌<◌, ◌+◌, ◌*◌, ◌/◌, ◌%◌, ◌^◌, ℕ, zero, suc, [], length, get_or, refl, sym, ap, ◌∙◌, arith}
use Rattle.std.specs.Char.{digit_char, digit_value}
use Rattle.std.specs.Fmt.{decimal}
use Rattle.std.specs.Str.Parse.{digits_value, digits_value_after}
use Rattle.std.proofs.Math.Arith.{mod-mul}
use Rattle.std.proofs.Math.Nat.{mod-eq_of_lt, pow-succ'}
use Rattle.std.proofs.lemmas.Fmt.{decimal_injective}
use Rattle.std.proofs.lemmas.Str.{digit_value-digit_char}
use Rattle.strip_film.specs.declared.shared.Line.{Line}
use Rattle.strip_proof.specs.Rows.{hex_digits, set_field, line_row}

pub length-hex_digits : (count number : ℕ) → length (hex_digits count number) ≡ count
unfolding hex_digits
length-hex_digits zero number = refl
length-hex_digits (suc count) number = ap suc (length-hex_digits count number)

some_power : (i : ℕ) → 0 < 16 ^ i
some_power zero = omega arith
some_power (suc i) = omega (arith, some_power i, pow-succ' 16 i)

one_place_more : (before digit place rest : ℕ) → (before * 16 + digit) * place + rest ≡ before * (16 * place) + (digit * place + rest)
one_place_more before digit place rest = grind arith

-- digits behind those of another number
value_after : (count number before : ℕ) → digits_value_after 16 before (hex_digits count number) ≡ before * 16 ^ count + number % 16 ^ count
unfolding hex_digits
value_after zero number before = omega arith
value_after (suc count) number before =
    let place : ℕ = 16 ^ count in
    let digit : ℕ = number / place % 16 in
    let read : digit_value (digit_char digit) ≡ digit = digit_value-digit_char digit (omega arith) in
    let power : 16 * place ≡ 16 ^ suc count = sym (pow-succ' 16 count) in
    let whole : digit * place + number % place ≡ number % 16 ^ suc count = sym (mod-mul number (omega arith) (some_power count)) ∙ ap (λ (n : ℕ). number % n) power in
    value_after count number (before * 16 + digit_value (digit_char digit))
    ∙ ap (λ (d : ℕ). (before * 16 + d) * place + number % place) read
    ∙ one_place_more before digit place (number % place)
    ∙ (λ i. before * power i + whole i)

pub value-hex_digits : (count number : ℕ) → number < 16 ^ count → digits_value 16 (hex_digits count number) ≡ number
value-hex_digits count number small = omega (arith, value_after count number 0, mod-eq_of_lt small)

pub same_line : (a b : Line) → a.set < 2 ^ 64 → b.set < 2 ^ 64 → a.bound < 2 ^ 64 → b.bound < 2 ^ 64 → line_row a ≡ line_row b → a ≡ b
same_line a b a_set b_set a_bound b_bound same =
    let sets : set_field a.set ≡ set_field b.set = ap (λ row. get_or row 1 []) same in
    let bounds : decimal a.bound ≡ decimal b.bound = ap (λ row. get_or row 2 []) same in
    let set : a.set ≡ b.set = sym (value-hex_digits 16 a.set a_set) ∙ ap (digits_value 16) sets ∙ value-hex_digits 16 b.set b_set in
    let bound : a.bound ≡ b.bound = decimal_injective a.bound b.bound a_bound b_bound bounds in
    λ i. record { set = set i; bound = bound i }
