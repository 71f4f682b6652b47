-- The fields of a plan's rows, as they are written, read back.
use Rattle.std.proofs.Common.{◌≡◌, ◌<◌, ◌^◌, ℕ, zero, suc, true, false, ◌/◌, ◌%◌, refl, arith}
use Rattle.std.specs.Char.{digit_char, is_ascii_hexdigit}
use Rattle.std.specs.Fmt.{decimal}
use Rattle.std.specs.List.{list_all}
use Rattle.std.proofs.lemmas.Bool.{and_from}
use Rattle.std.proofs.lemmas.Bool.Decides.{nat_tests}
use Rattle.std.proofs.lemmas.List.Elements.{All-cons, All-nil}
use Rattle.strip_model.specs.declared.kind.Kind.{Kind}
use Rattle.strip_model.specs.declared.kind.Kind.TheVariants.{Plain, Pairs, Groups, Arrivals}
use Rattle.strip_film.specs.declared.shared.Line.{Line}
use Rattle.strip_text.specs.Field.{is_blank, trimmed}
use Rattle.strip_text.specs.Number.{number_of}
use Rattle.strip_text.proofs.Blanks.{HasNoBlank, trimmed-same}
use Rattle.strip_text.proofs.Numbers.{is_number-decimal, number_of-decimal}
use Rattle.strip_proof.specs.declared.plan.Status.{Status}
use Rattle.strip_proof.specs.declared.plan.Status.TheVariants.{Optimal, Bounded}
use Rattle.strip_proof.specs.Field.{is_amount, is_kind, is_set, is_status, kind_of, set_of, status_of}
use Rattle.strip_proof.specs.Rows.{hex_digits, kind_word, line_row, set_field, status_word}
use Rattle.strip_proof.specs.Text.{IsReadableLine, line_of}
use Rattle.strip_proof.proofs.Values.{length-hex_digits, value-hex_digits}

pub is_status-word : (status : Status) → is_status (status_word status) ≡ true
is_status-word Optimal = refl
is_status-word Bounded = refl

pub status_of-word : (status : Status) → status_of (status_word status) ≡ status
status_of-word Optimal = refl
status_of-word Bounded = refl

pub trimmed-status : (status : Status) → trimmed (status_word status) ≡ status_word status
trimmed-status Optimal = refl
trimmed-status Bounded = refl

pub is_kind-word : (kind : Kind) → is_kind (kind_word kind) ≡ true
is_kind-word Plain = refl
is_kind-word Pairs = refl
is_kind-word Groups = refl
is_kind-word Arrivals = refl

pub kind_of-word : (kind : Kind) → kind_of (kind_word kind) ≡ kind
kind_of-word Plain = refl
kind_of-word Pairs = refl
kind_of-word Groups = refl
kind_of-word Arrivals = refl

pub trimmed-kind : (kind : Kind) → trimmed (kind_word kind) ≡ kind_word kind
trimmed-kind Plain = refl
trimmed-kind Pairs = refl
trimmed-kind Groups = refl
trimmed-kind Arrivals = refl

pub is_amount-decimal : (n : ℕ) → n < 2 ^ 63 → is_amount (decimal n) ≡ true
is_amount-decimal n small = is_number-decimal 0 9_223_372_036_854_775_807 n (omega arith) (omega (arith, small)) (omega (arith, small))

-- the digits of a set
digit-is : (digit : ℕ) → digit < 16 → is_ascii_hexdigit (digit_char digit) ≡ true
digit-is digit small = grind (arith, nat_tests)

digit-bare : (digit : ℕ) → is_blank (digit_char digit) ≡ false
digit-bare digit = grind (arith, nat_tests)

digits-are : (count number : ℕ) → list_all is_ascii_hexdigit (hex_digits count number) ≡ true
unfolding hex_digits
digits-are zero number = refl
digits-are (suc count) number = and_from _ _ (digit-is (number / 16 ^ count % 16) (omega arith)) (digits-are count number)

digits-bare : (count number : ℕ) → HasNoBlank (hex_digits count number)
unfolding hex_digits
digits-bare zero number = All-nil (λ byte. is_blank byte ≡ false)
digits-bare (suc count) number =
    All-cons (λ byte. is_blank byte ≡ false) (digit_char (number / 16 ^ count % 16)) (hex_digits count number) (digit-bare (number / 16 ^ count % 16)) (digits-bare count number)

pub is_set-field : (set : ℕ) → is_set (set_field set) ≡ true
is_set-field set = rw (length-hex_digits 16 set, digits-are 16 set) refl

pub trimmed-set : (set : ℕ) → trimmed (set_field set) ≡ set_field set
trimmed-set set = trimmed-same (set_field set) (digits-bare 16 set)

-- a line's row says it
pub line_of-row : (line : Line) → IsReadableLine line → line_of (line_row line) ≡ line
line_of-row line is =
    let set : set_of (set_field line.set) ≡ line.set = value-hex_digits 16 line.set is.set in
    let bound : number_of (decimal line.bound) ≡ line.bound = number_of-decimal line.bound (omega (arith, is.bound)) in
    λ i. record { set = set i; bound = bound i }
