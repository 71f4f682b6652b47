use Rattle.std.proofs.Common.{◌≡◌, ◌≤◌, ◌<◌, ◌+◌, ◌-◌, ◌*◌, ℕ, [], ◌∷◌, length, get_or, drop, All, nat_eq, true≢false, sym, ap, ◌∙◌, subst, arith, drop-cons, add-one}
use Rattle.std.proofs.lemmas.List.{drop_all}
use Rattle.std.proofs.lemmas.List.Elements.{All-from_get_or}
use Rattle.strip_words.specs.Words.{Word}
use Rattle.strip_words.specs.Options.{IsNumber, number_from}
use Rattle.strip_words.proofs.Results.{if_none}
use Rattle.strip_words.proofs.number.number_of.Goals as goal

number_step : (bytes : Word) (k n : ℕ) → k < length bytes
    → number_from n (drop k bytes) ≡ number_from (n * 10 + (get_or bytes k 0 - 48)) (drop (k + 1) bytes)
number_step bytes k n within =
    ap (number_from n) (drop-cons bytes k 0 within)
    ∙ ap (λ j. number_from (n * 10 + (get_or bytes k 0 - 48)) (drop j bytes)) (sym (add-one k))

number_grows : (n : ℕ) (bytes : Word) → n ≤ number_from n bytes
number_grows n [] = omega arith
number_grows n (byte ∷ bytes) = let grows = number_grows (n * 10 + (byte - 48)) bytes in omega (arith, grows)

-- no number that is too large with the next digit
too_much : (bytes word : Word) (k n most : ℕ) → bytes ≡ word → k < length bytes → number_from 0 bytes ≡ number_from n (drop k bytes)
    → most < n * 10 + (get_or bytes k 0 - 48) → (least value : ℕ) → ¬ IsNumber least most word value
too_much bytes word k n most same within so_far over least value number =
    let step = number_step bytes k n within in
    let grows = number_grows (n * 10 + (get_or bytes k 0 - 48)) (drop (k + 1) bytes) in
    let whole : value ≡ number_from 0 bytes = number.value ∙ ap (number_from 0) (sym same) in
    omega (arith, step, grows, whole, so_far, over, number.within.1)

pub returns-in_err-checked_mul-clause-none : goal.returns-in_err-checked_mul-clause-none
returns-in_err-checked_mul-clause-none c = if_none c.from_residual.result _ (
    too_much c.as_bytes-byte-items.result.now c.args.word.now c.loop-byte.byte-index c.loop-byte.number c.args.most c.as_bytes-byte-items.ensures.value
    c.loop-byte-test.true c.loop-byte.invariant.value (omega (arith, c.ranges.most.fits, c.in_err-checked_mul.ensures)) c.args.least)

pub returns-in_err-number-clause-none : goal.returns-in_err-number-clause-none
returns-in_err-number-clause-none c = if_none c.from_residual-in_err-number.result _ (
    too_much c.as_bytes-byte-items.result.now c.args.word.now c.loop-byte.byte-index c.loop-byte.number c.args.most c.as_bytes-byte-items.ensures.value
    c.loop-byte-test.true c.loop-byte.invariant.value (omega (arith, c.ranges.most.fits, c.in_err-number.ensures, c.in_ok-checked_mul.ensures, c.from.ensures)) c.args.least)

pub returns-then-number-most-clause-some : goal.returns-then-number-most-clause-some
returns-then-number-most-clause-some c = record {
  some = λ empty. true≢false (sym (sym c.if-is_empty.false ∙ c.is_empty.ensures ∙ ap (λ (w : Word). nat_eq (length w) 0) empty));
  digits = subst (All (λ byte. (48 ≤ byte) × (byte ≤ 57))) c.as_bytes-byte-items.ensures.value
      (All-from_get_or (λ byte. (48 ≤ byte) × (byte ≤ 57)) c.as_bytes-byte-items.result.now 0 (λ j within. c.loop-byte.invariant.digits j (omega (arith, within, c.loop-byte-test.false))));
  value = sym (ap (number_from 0) (sym c.as_bytes-byte-items.ensures.value) ∙ c.loop-byte.invariant.value ∙ ap (number_from c.loop-byte.number) (drop_all c.loop-byte.byte-index c.as_bytes-byte-items.result.now c.loop-byte-test.false));
  within = (omega (arith, c.if-least-number.true), omega (arith, c.if-number-most.true));
}
