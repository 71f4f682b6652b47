-- Elements of lists, of mapped lists and of filtered ones.
use Rattle.std.proofs.Common.{◌≡◌, ◌↔◌, zero, suc, Option, None, Some, List, [], ◌∷◌, map, All, Any, Contains, ◌⊎◌, inl, inr, refl, sym, ap, subst, arith}
use Rattle.std.specs.List.{filter_map, cons_option}
use Rattle.strip_model.proofs.Lists.{contains_none, contains_here, contains_later, contains_cases}
use Rattle.std.proofs.lemmas.List.Elements.{All-nil, All-cons, All-head, All-tail, All-map}

pub any_none : {X : Type 0} (P : X → Type 0) → Any P [] → ⊥
any_none P (k, x, within, at, holds) = omega (arith, within)

pub any_here : {X : Type 0} (P : X → Type 0) (x : X) (xs : List X) → P x → Any P (x ∷ xs)
any_here P x xs holds = (0, x, omega arith, refl, holds)

pub any_later : {X : Type 0} (P : X → Type 0) (y : X) (xs : List X) → Any P xs → Any P (y ∷ xs)
any_later P y xs (k, x, within, at, holds) = (suc k, x, omega (arith, within), at, holds)

pub any_cases : {X : Type 0} (P : X → Type 0) (y : X) (xs : List X) → Any P (y ∷ xs) → P y ⊎ Any P xs
any_cases P y xs (zero, x, within, at, holds) = inl (subst P (sym at) holds)
any_cases P y xs (suc k, x, within, at, holds) = inr (k, x, omega (arith, within), at, holds)

-- some element has it just where some element of the mapped list does
pub any_map : {X Y : Type 0} (P : Y → Type 0) (f : X → Y) (xs : List X) → Any (λ x. P (f x)) xs ↔ Any P (map f xs)
any_map {X} P f xs = (to xs, back xs)
  where
    to : (xs : List X) → Any (λ x. P (f x)) xs → Any P (map f xs)
    to [] some = absurd (any_none (λ x. P (f x)) some)
    to (y ∷ xs) some = elim (any_cases (λ x. P (f x)) y xs some) [
      | inl here ↦ any_here P (f y) (map f xs) here
      | inr later ↦ any_later P (f y) (map f xs) (to xs later)
    ]

    back : (xs : List X) → Any P (map f xs) → Any (λ x. P (f x)) xs
    back [] some = absurd (any_none P some)
    back (y ∷ xs) some = elim (any_cases P (f y) (map f xs) some) [
      | inl here ↦ any_here (λ x. P (f x)) y xs here
      | inr later ↦ any_later (λ x. P (f x)) y xs (back xs later)
    ]

pub any_contains : {X : Type 0} (xs : List X) (y : X) → Any (λ x. x ≡ y) xs ↔ Contains xs y
any_contains {X} xs y = (to xs, back xs)
  where
    to : (xs : List X) → Any (λ x. x ≡ y) xs → Contains xs y
    to xs (k, x, within, at, same) = subst (Contains xs) same (k, within, at)

    back : (xs : List X) → Contains xs y → Any (λ x. x ≡ y) xs
    back xs (k, within, at) = (k, y, within, at, refl)

-- an element is kept just where something is mapped to it
pub any_kept : {X Y : Type 0} (h : X → Option Y) (xs : List X) (y : Y) → Any (λ x. h x ≡ Some y) xs ↔ Contains (filter_map h xs) y
any_kept {X} {Y} h xs y = (to xs, back xs)
  where
    some_is : (a : Y) → Some a ≡ Some y → a ≡ y
    some_is a same = cc

    here : (o : Option Y) (ys : List Y) → o ≡ Some y → Contains (cons_option o ys) y
    here o ys is = subst (λ o. Contains (cons_option o ys) y) (sym is) (contains_here y ys)

    later : (o : Option Y) (ys : List Y) → Contains ys y → Contains (cons_option o ys) y
    later None ys there = there
    later (Some a) ys there = contains_later a ys y there

    cases : (o : Option Y) (ys : List Y) → Contains (cons_option o ys) y → (o ≡ Some y) ⊎ Contains ys y
    cases None ys there = inr there
    cases (Some a) ys there = elim (contains_cases a ys y there) [ inl same ↦ inl (ap Some same) | inr more ↦ inr more ]

    to : (xs : List X) → Any (λ x. h x ≡ Some y) xs → Contains (filter_map h xs) y
    to [] some = absurd (any_none (λ x. h x ≡ Some y) some)
    to (x ∷ xs) some = elim (any_cases (λ x. h x ≡ Some y) x xs some) [
      | inl is ↦ here (h x) (filter_map h xs) is
      | inr more ↦ later (h x) (filter_map h xs) (to xs more)
    ]

    back : (xs : List X) → Contains (filter_map h xs) y → Any (λ x. h x ≡ Some y) xs
    back [] there = absurd (contains_none y there)
    back (x ∷ xs) there = elim (cases (h x) (filter_map h xs) there) [
      | inl is ↦ any_here (λ x. h x ≡ Some y) x xs is
      | inr more ↦ any_later (λ x. h x ≡ Some y) x xs (back xs more)
    ]

pub all_map : {X Y : Type 0} (P : Y → Type 0) (f : X → Y) (xs : List X) → All (λ x. P (f x)) xs ↔ All P (map f xs)
all_map {X} P f xs = (All-map P f xs, back xs)
  where
    back : (xs : List X) → All P (map f xs) → All (λ x. P (f x)) xs
    back [] all = All-nil (λ x. P (f x))
    back (x ∷ xs) all = All-cons (λ x. P (f x)) x xs (All-head P (f x) (map f xs) all) (back xs (All-tail P (f x) (map f xs) all))

pub any_weaker : {X : Type 0} (P Q : X → Type 0) (xs : List X) → ((x : X) → P x → Q x) → Any P xs → Any Q xs
any_weaker P Q xs weaker (k, x, within, at, holds) = (k, x, within, at, weaker x holds)
