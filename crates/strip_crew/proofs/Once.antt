-- What is once below an end.
use Rattle.std.proofs.Common.{◌≡◌, ◌≢◌, ℕ, suc, ◌+◌, ◌<◌, ◌≤◌, ltb, [], ◌∷◌, inl, inr, ap, ◌∙◌, arith}
use Rattle.std.proofs.lemmas.Bool.{cases_eq, cases_lt, cond-false, cond-true, le-ltb, lt-ltb}
use Rattle.strip_mask.proofs.Lists.{count_here, count_other}
use Rattle.strip_least.specs.Rule.{once_below, times}

pub once_here : (number end : ℕ) → number < end → once_below number end ≡ 1
once_here number end below = cond-true (ltb number end) 1 0 (lt-ltb number end below)

pub once_none : (number end : ℕ) → end ≤ number → once_below number end ≡ 0
once_none number end above = cond-false (ltb number end) 1 0 (le-ltb number end above)

pub at_most_once : (number end : ℕ) → once_below number end ≤ 1
at_most_once number end = elim (cases_lt number end) [
  | inl below ↦ omega (arith, once_here number end below)
  | inr above ↦ omega (arith, once_none number end above)
]

-- one more is below the next number, where it is this one
pub one_below : (number end : ℕ) → once_below number (suc end) ≡ times number (end ∷ []) + once_below number end
one_below number end = elim (cases_eq end number) [
  | inl same ↦ (
      let here : times number (end ∷ []) ≡ 1 = ap (λ (n : ℕ). times number (n ∷ [])) same ∙ count_here number [] in
      omega (arith, here, once_here number (suc end) (omega (arith, same)), once_none number end (omega (arith, same))))
  | inr apart ↦ (
      let none : times number (end ∷ []) ≡ 0 = count_other number end [] apart in
      elim (cases_lt number end) [
        | inl below ↦ omega (arith, none, once_here number (suc end) (omega (arith, below)), once_here number end below)
        | inr above ↦ (
            let beyond : suc end ≤ number = over end number above apart in
            omega (arith, none, once_none number (suc end) beyond, once_none number end above))
      ])
]
  where
    over : (low high : ℕ) → low ≤ high → low ≢ high → suc low ≤ high
    over low high most other = elim (cases_lt low high) [
      | inl less ↦ omega (arith, less)
      | inr more ↦ absurd (other (omega (arith, most, more)))
    ]
