-- A list that is changed or made from the front.
use Rattle.std.proofs.Common.{◌≡◌, ℕ, zero, suc, ◌+◌, List, [], ◌∷◌, ◌++◌, length, map, set, refl, sym, ap, subst, arith}
use mathlib.Core.Option.{some, some-injective, some-ne-none}
use lib.ListN.{get_elem?}

module _ {A : Type 0} where
  -- so many at the front are changed
  abbrev pub changed : (A → A) → ℕ → List A → List A
  changed f zero xs = xs
  changed f (suc n) [] = []
  changed f (suc n) (x ∷ xs) = f x ∷ changed f n xs

  changed-next : (f : A → A) (n : ℕ) (xs : List A) (x : A) → get_elem? xs n ≡ some x → set (changed f n xs) n (f x) ≡ changed f (suc n) xs
  changed-next f zero [] x at = refl
  changed-next f zero (y ∷ ys) x at = ap (λ z. f z ∷ ys) (sym (some-injective y x at))
  changed-next f (suc n) [] x at = absurd (some-ne-none x (sym at))
  changed-next f (suc n) (y ∷ ys) x at = ap (λ l. f y ∷ l) (changed-next f n ys x at)

  pub changed-step : (f : A → A) (n : ℕ) (xs : List A) (x : A) → get_elem? xs n ≡ some x → set (changed f n xs) n (f x) ≡ changed f (n + 1) xs
  changed-step f n xs x at = (let next : suc n ≡ n + 1 = omega arith in subst (λ k. set (changed f n xs) n (f x) ≡ changed f k xs) next (changed-next f n xs x at))

  pub changed-here : (f : A → A) (n : ℕ) (xs : List A) → get_elem? (changed f n xs) n ≡ get_elem? xs n
  changed-here f zero xs = refl
  changed-here f (suc n) [] = refl
  changed-here f (suc n) (y ∷ ys) = changed-here f n ys

  pub changed-all : (f : A → A) (xs : List A) → changed f (length xs) xs ≡ map f xs
  changed-all f [] = refl
  changed-all f (y ∷ ys) = ap (λ l. f y ∷ l) (changed-all f ys)

  pub changed-long : (f : A → A) (n : ℕ) (xs : List A) → length (changed f n xs) ≡ length xs
  changed-long f zero xs = refl
  changed-long f (suc n) [] = refl
  changed-long f (suc n) (y ∷ ys) = ap suc (changed-long f n ys)

module _ {A B : Type 0} where
  -- what so many at the front are made into
  abbrev pub made : (A → B) → ℕ → List A → List B
  made f zero xs = []
  made f (suc n) [] = []
  made f (suc n) (x ∷ xs) = f x ∷ made f n xs

  made-next : (f : A → B) (n : ℕ) (xs : List A) (x : A) → get_elem? xs n ≡ some x → made f n xs ++ f x ∷ [] ≡ made f (suc n) xs
  made-next f zero [] x at = absurd (some-ne-none x (sym at))
  made-next f zero (y ∷ ys) x at = ap (λ z. f z ∷ []) (sym (some-injective y x at))
  made-next f (suc n) [] x at = absurd (some-ne-none x (sym at))
  made-next f (suc n) (y ∷ ys) x at = ap (λ l. f y ∷ l) (made-next f n ys x at)

  pub made-step : (f : A → B) (n : ℕ) (xs : List A) (x : A) → get_elem? xs n ≡ some x → made f n xs ++ f x ∷ [] ≡ made f (n + 1) xs
  made-step f n xs x at = (let next : suc n ≡ n + 1 = omega arith in subst (λ k. made f n xs ++ f x ∷ [] ≡ made f k xs) next (made-next f n xs x at))

  pub made-all : (f : A → B) (xs : List A) → made f (length xs) xs ≡ map f xs
  made-all f [] = refl
  made-all f (y ∷ ys) = ap (λ l. f y ∷ l) (made-all f ys)
