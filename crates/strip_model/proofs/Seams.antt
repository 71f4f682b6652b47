-- The part of two lists, one behind the other, from the first number that passes to the last one.
use Rattle.std.proofs.Common.{◌≡◌, ℕ, ◌+◌, ◌≤◌, Bool, true, false, cond, ◌||◌, ◌&&◌, List, [], ◌∷◌, ◌++◌, reverse, sum_by, inl, inr, refl, sym, ap, ◌∙◌, arith}
use Rattle.std.specs.List.{list_any}
use Rattle.std.proofs.lemmas.Bool.{cases_Bool, or_parts, or_left}
use Rattle.std.proofs.lemmas.List.{reverse-append, reverse-reverse}
use Rattle.std.proofs.lemmas.List.Sums.{sum_by-cons, sum_by-append}
use Rattle.strip_model.specs.Pay.{from_first, to_last}
use Rattle.strip_model.proofs.Spans.{any-reverse, from_first-none, to_last-cons, sum-from_first, sum-to_last}

module _ (p : ℕ → Bool) where
  pub from_first-append_some : (xs ys : List ℕ) → list_any p xs ≡ true → from_first p (xs ++ ys) ≡ from_first p xs ++ ys
  from_first-append_some [] ys some = absurd (cc)
  from_first-append_some (x ∷ xs) ys some = elim (cases_Bool (p x)) [
    | inl passes ↦ rw passes refl
    | inr fails ↦ rw fails (from_first-append_some xs ys (rw fails at some))
  ]

  pub from_first-append_none : (xs ys : List ℕ) → list_any p xs ≡ false → from_first p (xs ++ ys) ≡ from_first p ys
  from_first-append_none [] ys none = refl
  from_first-append_none (x ∷ xs) ys none =
      let parts : (p x ≡ false) × (list_any p xs ≡ false) = or_parts (p x) (list_any p xs) none in
      rw parts.0 (from_first-append_none xs ys parts.1)

  turned : (xs ys : List ℕ) → to_last p (xs ++ ys) ≡ reverse (from_first p (reverse ys ++ reverse xs))
  turned xs ys = ap (λ (zs : List ℕ). reverse (from_first p zs)) (reverse-append xs ys)

  pub to_last-append_some : (xs ys : List ℕ) → list_any p ys ≡ true → to_last p (xs ++ ys) ≡ xs ++ to_last p ys
  to_last-append_some xs ys some =
      turned xs ys ∙ ap reverse (from_first-append_some (reverse ys) (reverse xs) (any-reverse p ys ∙ some))
      ∙ reverse-append (from_first p (reverse ys)) (reverse xs) ∙ ap (λ (zs : List ℕ). zs ++ to_last p ys) (reverse-reverse xs)

  pub to_last-append_none : (xs ys : List ℕ) → list_any p ys ≡ false → to_last p (xs ++ ys) ≡ to_last p xs
  to_last-append_none xs ys none = turned xs ys ∙ ap reverse (from_first-append_none (reverse ys) (reverse xs) (any-reverse p ys ∙ none))

  pub to_last-front : (x : ℕ) (xs : List ℕ) → (p x || list_any p xs) ≡ true → to_last p (x ∷ xs) ≡ x ∷ to_last p xs
  to_last-front x xs some = to_last-cons p x xs ∙ ap (λ (b : Bool). cond b (x ∷ to_last p xs) []) some

  -- ---- and what is paid for it

  -- what is paid from the first that passes to the last one
  abbrev pub paid : (ℕ → ℕ) → List ℕ → ℕ
  paid f xs = sum_by f (to_last p (from_first p xs))

  paid-none_before : (f : ℕ → ℕ) (xs ys : List ℕ) → list_any p xs ≡ false → paid f (xs ++ ys) ≡ paid f ys
  paid-none_before f xs ys none = ap (λ (zs : List ℕ). sum_by f (to_last p zs)) (from_first-append_none xs ys none)

  paid-both : (f : ℕ → ℕ) (xs ys : List ℕ) → list_any p xs ≡ true → list_any p ys ≡ true
      → paid f (xs ++ ys) ≡ sum_by f (from_first p xs) + sum_by f (to_last p ys)
  paid-both f xs ys some later =
      ap (λ (zs : List ℕ). sum_by f (to_last p zs)) (from_first-append_some xs ys some)
      ∙ ap (sum_by f) (to_last-append_some (from_first p xs) ys later) ∙ sum_by-append f (from_first p xs) (to_last p ys)

  paid-none_behind : (f : ℕ → ℕ) (xs ys : List ℕ) → list_any p ys ≡ false → paid f (xs ++ ys) ≡ paid f xs
  paid-none_behind f xs ys none = elim (cases_Bool (list_any p xs)) [
    | inl some ↦ ap (λ (zs : List ℕ). sum_by f (to_last p zs)) (from_first-append_some xs ys some) ∙ ap (sum_by f) (to_last-append_none (from_first p xs) ys none)
    | inr nowhere ↦ paid-none_before f xs ys nowhere
        ∙ ap (λ (zs : List ℕ). sum_by f (to_last p zs)) (from_first-none p ys none ∙ sym (from_first-none p xs nowhere))
  ]

  -- a number that passes stands in every part, with what is paid up to it and behind it
  pub paid-passing : (f : ℕ → ℕ) (xs : List ℕ) (x : ℕ) (ys : List ℕ) → p x ≡ true
      → paid f (xs ++ x ∷ ys) ≡ sum_by f (from_first p xs) + (f x + sum_by f (to_last p ys))
  paid-passing f xs x ys passes =
      let later : list_any p (x ∷ ys) ≡ true = or_left (p x) (list_any p ys) passes in
      let front : sum_by f (to_last p (x ∷ ys)) ≡ f x + sum_by f (to_last p ys)
      = ap (sum_by f) (to_last-front x ys later) ∙ sum_by-cons f x (to_last p ys) in
      elim (cases_Bool (list_any p xs)) [
        | inl some ↦ paid-both f xs (x ∷ ys) some later ∙ ap (λ (n : ℕ). sum_by f (from_first p xs) + n) front
        | inr nowhere ↦ (let empty : sum_by f (from_first p xs) ≡ 0 = ap (sum_by f) (from_first-none p xs nowhere) in
            let start : paid f (x ∷ ys) ≡ sum_by f (to_last p (x ∷ ys)) = rw passes refl in
            omega (arith, paid-none_before f xs (x ∷ ys) nowhere, start, front, empty))
      ]

  -- one that fails is paid where some number before it and some number behind it pass
  pub paid-waiting : (f : ℕ → ℕ) (xs : List ℕ) (x : ℕ) (ys : List ℕ) → p x ≡ false
      → paid f (xs ++ x ∷ ys) ≡ paid f (xs ++ ys) + cond (list_any p xs && list_any p ys) (f x) 0
  paid-waiting f xs x ys fails =
      let same : list_any p (x ∷ ys) ≡ list_any p ys = rw fails refl in
      elim (cases_Bool (list_any p xs)) [
        | inl some ↦ elim (cases_Bool (list_any p ys)) [
          | inl later ↦ rw (some, later) (omega (
            arith,
            paid-both f xs (x ∷ ys) some (same ∙ later),
            paid-both f xs ys some later,
            ap (sum_by f) (to_last-front x ys (same ∙ later)) ∙ sum_by-cons f x (to_last p ys),
          ))
          | inr none ↦ rw (some, none) (omega (arith, paid-none_behind f xs (x ∷ ys) (same ∙ none), paid-none_behind f xs ys none))
        ]
        | inr nowhere ↦ (let start : paid f (x ∷ ys) ≡ paid f ys = rw fails refl in
            rw nowhere (omega (arith, paid-none_before f xs (x ∷ ys) nowhere, paid-none_before f xs ys nowhere, start)))
      ]

  -- a part of joined lists is at most the one list and the part of the other
  pub sum-from_first_append : (f : ℕ → ℕ) (xs ys : List ℕ) → sum_by f (from_first p (xs ++ ys)) ≤ sum_by f (from_first p xs) + sum_by f ys
  sum-from_first_append f xs ys = elim (cases_Bool (list_any p xs)) [
    | inl some ↦ omega (arith, ap (sum_by f) (from_first-append_some xs ys some) ∙ sum_by-append f (from_first p xs) ys)
    | inr none ↦ omega (arith, ap (sum_by f) (from_first-append_none xs ys none), sum-from_first p f ys)
  ]

  pub sum-to_last_append : (f : ℕ → ℕ) (xs ys : List ℕ) → sum_by f (to_last p (xs ++ ys)) ≤ sum_by f xs + sum_by f (to_last p ys)
  sum-to_last_append f xs ys = elim (cases_Bool (list_any p ys)) [
    | inl some ↦ omega (arith, ap (sum_by f) (to_last-append_some xs ys some) ∙ sum_by-append f xs (to_last p ys))
    | inr none ↦ omega (arith, ap (sum_by f) (to_last-append_none xs ys none), sum-to_last p f xs)
  ]
