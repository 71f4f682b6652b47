-- Lists of numbers: how often a number stands in one, which are in order, and the numbers among entries.
use Rattle.std.proofs.Common.{◌≡◌, ◌≢◌, ◌==◌, ℕ, suc, ◌+◌, ◌≤◌, cond, List, [], ◌∷◌, ◌++◌, Option, Some, None, length, inl, inr, refl, sym, ap, ◌∙◌, subst, arith}
use Rattle.std.proofs.lemmas.Bool.Decides.{eqb_tells}
use Rattle.std.proofs.lemmas.List.Sums.{sum_by-append, sum_by-cons}
use Rattle.strip_steal.specs.Rule.{AreInOrder, numbers_in, times}

-- ---- how often a number stands in a list

pub times-append : (number : ℕ) (xs ys : List ℕ) → times number (xs ++ ys) ≡ times number xs + times number ys
times-append number xs ys = sum_by-append (λ other. cond {A = ℕ} (other == number) 1 0) xs ys

pub times-cons : (number x : ℕ) (xs : List ℕ) → times number (x ∷ xs) ≡ times number (x ∷ []) + times number xs
times-cons number x xs = times-append number (x ∷ []) xs

pub times-self : (x : ℕ) → times x (x ∷ []) ≡ 1
times-self x = elim (eqb_tells x x) [
  | inl is ↦ sum_by-cons (λ other. cond {A = ℕ} (other == x) 1 0) x [] ∙ ap (λ b. cond {A = ℕ} b 1 0 + 0) is.0
  | inr is_not ↦ absurd (is_not.1 refl)
]

pub times-other : (number x : ℕ) → x ≢ number → times number (x ∷ []) ≡ 0
times-other number x apart = elim (eqb_tells x number) [
  | inl is ↦ absurd (apart is.1)
  | inr is_not ↦ sum_by-cons (λ other. cond {A = ℕ} (other == number) 1 0) x [] ∙ ap (λ b. cond {A = ℕ} b 1 0 + 0) is_not.0
]

-- a list that a number stands in, without it
pub record Without (x : ℕ) (ys : List ℕ) : Type 0 where
  pub rest : List ℕ
  pub long : length ys ≡ suc (length rest)
  pub same : (number : ℕ) → times number ys ≡ times number (x ∷ []) + times number rest

without_more : (x y : ℕ) (ys : List ℕ) → Without x ys → Without x (y ∷ ys)
without_more x y ys out = record {
  rest = y ∷ out.rest;
  long = ap suc out.long;
  same = λ number. omega (arith, times-cons number y ys, times-cons number y out.rest, out.same number);
}

pub without : (x : ℕ) (ys : List ℕ) → 1 ≤ times x ys → Without x ys
without x [] there = absurd (omega (arith, there))
without x (y ∷ ys) there = elim (eqb_tells y x) [
  | inl is ↦ record { rest = ys; long = refl; same = λ number. times-cons number y ys ∙ ap (λ z. times number (z ∷ []) + times number ys) is.1 }
  | inr is_not ↦ without_more x y ys (without x ys (omega (arith, there, times-cons x y ys, times-other x y is_not.1)))
]

-- a list in which no number stands more often than in another is no longer
pub no_longer : (xs ys : List ℕ) → ((number : ℕ) → times number xs ≤ times number ys) → length xs ≤ length ys
no_longer [] ys few = omega arith
no_longer (x ∷ xs) ys few =
    let out = without x ys (omega (arith, few x, times-cons x x xs, times-self x)) in
    let rest = no_longer xs out.rest (λ number. omega (arith, few number, times-cons number x xs, out.same number)) in omega (arith, rest, out.long)

-- ---- numbers that stand in a list in this order

pub order-more : (xs ys zs : List ℕ) → AreInOrder xs ys → AreInOrder xs (ys ++ zs)
order-more [] ys zs are = tt
order-more (x ∷ xs) [] zs are = absurd are
order-more (x ∷ xs) (y ∷ ys) zs are = elim are [
  | inl here ↦ inl (here.0, order-more xs ys zs here.1)
  | inr later ↦ inr (order-more (x ∷ xs) ys zs later)
]

order-last : (x : ℕ) (ys : List ℕ) → AreInOrder (x ∷ []) (ys ++ x ∷ [])
order-last x [] = inl (refl, tt)
order-last x (y ∷ ys) = inr (order-last x ys)

pub order-both : (xs ys : List ℕ) (x : ℕ) → AreInOrder xs ys → AreInOrder (xs ++ x ∷ []) (ys ++ x ∷ [])
order-both [] ys x are = order-last x ys
order-both (z ∷ xs) [] x are = absurd are
order-both (z ∷ xs) (y ∷ ys) x are = elim are [
  | inl here ↦ inl (here.0, order-both xs ys x here.1)
  | inr later ↦ inr (order-both (z ∷ xs) ys x later)
]

-- ---- the numbers among entries

pub numbers_in-append : (xs ys : List (Option ℕ)) → numbers_in (xs ++ ys) ≡ numbers_in xs ++ numbers_in ys
numbers_in-append [] ys = refl
numbers_in-append (None ∷ xs) ys = numbers_in-append xs ys
numbers_in-append (Some x ∷ xs) ys = ap (λ l. x ∷ l) (numbers_in-append xs ys)

pub times-entries : (number : ℕ) (xs ys : List (Option ℕ)) → times number (numbers_in (xs ++ ys)) ≡ times number (numbers_in xs) + times number (numbers_in ys)
times-entries number xs ys = ap (times number) (numbers_in-append xs ys) ∙ times-append number (numbers_in xs) (numbers_in ys)

pub order-entries : (taken : List ℕ) (xs ys : List (Option ℕ)) → AreInOrder taken (numbers_in xs) → AreInOrder taken (numbers_in (xs ++ ys))
order-entries taken xs ys are = subst (AreInOrder taken) (sym (numbers_in-append xs ys)) (order-more taken (numbers_in xs) (numbers_in ys) are)

-- no number is behind where there is none with an entry before it
pub none_behind : (entry : Option ℕ) (items : List (Option ℕ)) → numbers_in (entry ∷ items) ≡ [] → numbers_in items ≡ []
none_behind None items none_ = none_
none_behind (Some x) items none_ = absurd (omega (arith, ap (λ (l : List ℕ). length l) none_))
