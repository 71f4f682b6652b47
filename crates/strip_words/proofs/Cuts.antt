-- A word cut at its first equals sign.
use Rattle.std.proofs.Common.{◌≡◌, ℕ, ◌<◌, Bool, eqb, Option, None, Some, ◌∷◌, ◌++◌, length, get_or, take, Contains, Bor, MatchOption, refl, sym, ap, ◌∙◌, subst, arith, true≢false}
use Rattle.std.specs.List.{position_or_len, before_first, after_first}
use Rattle.std.proofs.lemmas.List.Sums.{split_at_first, passes_at_first, fails_before_first}
use Rattle.std.proofs.lemmas.List.{get_or-take, length-take-le}
use Rattle.std.proofs.lemmas.Bool.Decides.{nat_tests}
use Rattle.std.proofs.lemmas.Str.Pattern.{IsSplitOnceResult, split_once_first}
use Rattle.strip_words.specs.Words.{Word}

abbrev is_equals : ℕ → Bool
is_equals byte = eqb byte 61

-- no equals sign stands before the first
lacks_before : (word : Word) (n : ℕ) → n ≡ position_or_len is_equals word → (k : ℕ) → k < n → get_or word k 61 ≡ 61 → ⊥
lacks_before word n is k within at = true≢false (sym (ap is_equals at) ∙ fails_before_first is_equals word k 61 (omega (arith, within, is)))

lacks_all : (word : Word) → position_or_len is_equals word ≡ length word → ¬ Contains word 61
lacks_all word is (k, within, at) = lacks_before word (length word) (sym is) k within at

lacks_front : (word : Word) (n : ℕ) → n ≡ position_or_len is_equals word → n < length word → ¬ Contains (take n word) 61
lacks_front word n is short (k, within, at) =
    let long : length (take n word) ≡ n = length-take-le n word (omega (arith, short)) in
    let below : k < n = omega (arith, within, long) in
    lacks_before word n is k below (sym (get_or-take n word k 61 below) ∙ at)

-- the parts that `split_once` gives
pub record IsCut (word name value : Word) : Type 0 where
  pub whole : word ≡ name ++ 61 ∷ value
  pub lacks : ¬ Contains name 61

pub cut_parts : (word : Word) (r : Option (Bor Word × Bor Word)) → IsSplitOnceResult 61 word r
    → MatchOption r (¬ Contains word 61) (λ parts. IsCut word parts.0.now parts.1.now)
cut_parts word r is = by r (split_once_first 61 word r is (omega arith))
  where
    by : (r : Option (Bor Word × Bor Word))
        → MatchOption r (position_or_len is_equals word ≡ length word) (λ x. (position_or_len is_equals word < length word) × (x.0.now ≡ before_first is_equals word) × (x.1.now ≡ after_first is_equals word))
        → MatchOption r (¬ Contains word 61) (λ parts. IsCut word parts.0.now parts.1.now)
    by None none = lacks_all word none
    by (Some parts) (within, name, value) =
        let at : get_or word (position_or_len is_equals word) 0 ≡ 61 = (let is = passes_at_first is_equals word 0 within in grind (arith, nat_tests)) in
        let split = split_at_first is_equals word 0 within in
        record {
          whole = (let n = name in let v = value in cc);
          lacks = subst (λ (w : Word). ¬ Contains w 61) (sym name) (lacks_front word (position_or_len is_equals word) refl within);
        }
