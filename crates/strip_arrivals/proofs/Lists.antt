-- Lists: what stands in one, who passes a test, and a sum over the members of a set that pass.
use Rattle.std.proofs.Common.{◌≡◌, ℕ, ◌⊎◌, Bool, true, false, ◌&&◌, cond, List, [], ◌∷◌, Contains, filter, map, sum_by, refl, ap, ◌∙◌, subst, inl, inr}
use Rattle.std.proofs.lemmas.Bool.{cases_Bool}
use Rattle.strip_mask.specs.Set.{has, members}
use Rattle.strip_mask.specs.Sums.{sum_below}
use Rattle.strip_mask.proofs.Sums.{sum_below-ext}
use Rattle.strip_mask.proofs.Lists.{contains_cases, contains_here, contains_later, contains_none}
use Rattle.strip_mask.proofs.Totals.{sum_filter, sum_members}

-- ---- what stands in a list

-- a list in which nothing stands is empty
pub none_there : {X : Type 0} (xs : List X) → ((x : X) → Contains xs x → ⊥) → xs ≡ []
none_there [] none = refl
none_there (x ∷ xs) none = absurd (none x (contains_here x xs))

pub contains_map : {X Y : Type 0} (f : X → Y) (xs : List X) (x : X) → Contains xs x → Contains (map f xs) (f x)
contains_map f [] x there = absurd (contains_none x there)
contains_map f (y ∷ ys) x there = elim (contains_cases y ys x there) [
  | inl same ↦ subst (λ z. Contains (f y ∷ map f ys) z) (ap f same) (contains_here (f y) (map f ys))
  | inr later ↦ contains_later (f y) (map f ys) (f x) (contains_map f ys x later)
]

pub contains_from_map : {X Y : Type 0} (f : X → Y) (xs : List X) (y : Y) → Contains (map f xs) y → (x : X) × Contains xs x × (f x ≡ y)
contains_from_map f [] y there = absurd (contains_none y there)
contains_from_map f (x ∷ xs) y there = elim (contains_cases (f x) (map f xs) y there) [
  | inl same ↦ (x, contains_here x xs, same)
  | inr later ↦ (let found = contains_from_map f xs y later in (found.0, contains_later x xs found.0 found.1, found.2))
]

pub contains_filter : {X : Type 0} (p : X → Bool) (xs : List X) (x : X) → Contains xs x → p x ≡ true → Contains (filter p xs) x
contains_filter p [] x there passes = absurd (contains_none x there)
contains_filter p (y ∷ ys) x there passes = elim (contains_cases y ys x there) [
  | inl same ↦ rw (ap p same ∙ passes) (subst (λ z. Contains (y ∷ filter p ys) z) same (contains_here y (filter p ys)))
  | inr later ↦ either (p y) (contains_filter p ys x later passes)
]
  where
    either : (b : Bool) → Contains (filter p ys) x → Contains (cond b (y ∷ filter p ys) (filter p ys)) x
    either true found = contains_later y (filter p ys) x found
    either false found = found

pub contains_from_filter : {X : Type 0} (p : X → Bool) (xs : List X) (x : X) → Contains (filter p xs) x → Contains xs x × (p x ≡ true)
contains_from_filter p [] x there = absurd (contains_none x there)
contains_from_filter p (y ∷ ys) x there = by_test (p y) refl there (λ later. let found = contains_from_filter p ys x later in (contains_later y ys x found.0, found.1))
  where
    by_test : (b : Bool) → p y ≡ b → Contains (cond b (y ∷ filter p ys) (filter p ys)) x → (Contains (filter p ys) x → Contains (y ∷ ys) x × (p x ≡ true))
        → Contains (y ∷ ys) x × (p x ≡ true)
    by_test true passes found further = elim (contains_cases y (filter p ys) x found) [
      | inl same ↦ (subst (λ z. Contains (y ∷ ys) z) same (contains_here y ys), subst (λ z. p z ≡ true) same passes)
      | inr later ↦ further later
    ]
    by_test false fails found further = further found

-- some element passes or none does
pub some_or_none : {X : Type 0} (p : X → Bool) (xs : List X) → ((x : X) × Contains xs x × (p x ≡ true)) ⊎ ((x : X) → Contains xs x → p x ≡ false)
some_or_none p [] = inr (λ x there. absurd (contains_none x there))
some_or_none p (y ∷ ys) = elim (cases_Bool (p y)) [
  | inl passes ↦ inl (y, contains_here y ys, passes)
  | inr fails ↦ elim (some_or_none p ys) [
    | inl found ↦ inl (found.0, contains_later y ys found.0 found.1, found.2)
    | inr none ↦ inr (λ x there. elim (contains_cases y ys x there) [
      | inl same ↦ subst (λ z. p z ≡ false) same fails
      | inr later ↦ none x later
    ])
  ]
]

-- ---- sums over those that pass

both_tests : (b c : Bool) (n : ℕ) → cond b (cond c n 0) 0 ≡ cond (b && c) n 0
both_tests true c n = refl
both_tests false c n = refl

-- the sum over the members of a set that pass, as one over all numbers
pub sum_passing : (f : ℕ → ℕ) (p : ℕ → Bool) (set : ℕ) → sum_by f (filter p (members set)) ≡ sum_below 64 (λ i. cond (has set i && p i) (f i) 0)
sum_passing f p set =
    sum_filter f p (members set)
    ∙ sum_members (λ x. cond (p x) (f x) 0) set
    ∙ sum_below-ext 64 (λ i. cond (has set i) (cond (p i) (f i) 0) 0) (λ i. cond (has set i && p i) (f i) 0) (λ i _. both_tests (has set i) (p i) (f i))
