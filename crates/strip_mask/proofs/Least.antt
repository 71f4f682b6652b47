-- The least value over a list: no value of the list is less, and one is it.
use Rattle.std.proofs.Common.{◌≡◌, ℕ, ◌≤◌, min, List, [], ◌∷◌, Contains, inl, inr, refl, ◌∙◌, subst, arith}
use Rattle.std.proofs.Math.Nat.{min-le_left, min-le_right, min-eq_left, min-eq_right}
use Rattle.std.proofs.lemmas.Bool.{cases_lt}
use Rattle.strip_mask.specs.Least.{least_at, least_over}
use Rattle.strip_mask.proofs.Lists.{contains_cases, contains_here, contains_later, contains_none}

pub least_at_le : (f : ℕ → ℕ) (x : ℕ) (xs : List ℕ) (y : ℕ) → Contains (x ∷ xs) y → least_at f x xs ≤ f y
least_at_le f x [] y there = elim (contains_cases x [] y there) [
  | inl same ↦ rw same (omega arith)
  | inr none ↦ absurd (contains_none y none)
]
least_at_le f x (z ∷ zs) y there = elim (contains_cases x (z ∷ zs) y there) [
  | inl same ↦ (let first : min (f x) (least_at f z zs) ≤ f x = min-le_left (f x) (least_at f z zs) in
      subst (λ (i : ℕ). min (f x) (least_at f z zs) ≤ f i) same first)
  | inr later ↦ (let rest : least_at f z zs ≤ f y = least_at_le f z zs y later in
      let second : min (f x) (least_at f z zs) ≤ least_at f z zs = min-le_right (f x) (least_at f z zs) in
      omega (arith, rest, second))
]

pub least_at_attained : (f : ℕ → ℕ) (x : ℕ) (xs : List ℕ) → (y : ℕ) × Contains (x ∷ xs) y × (least_at f x xs ≡ f y)
least_at_attained f x [] = (x, contains_here x [], refl)
least_at_attained f x (z ∷ zs) =
    let rest = least_at_attained f z zs in
    elim (cases_lt (f x) (least_at f z zs)) [
      | inl less ↦ (x, contains_here x (z ∷ zs), min-eq_left (omega (arith, less)))
      | inr more ↦ (rest.0, contains_later x (z ∷ zs) rest.0 rest.1, min-eq_right more ∙ rest.2)
    ]

-- of a list that may be empty
pub least_over_le : (f : ℕ → ℕ) (xs : List ℕ) (y : ℕ) → Contains xs y → least_over f xs ≤ f y
least_over_le f [] y there = absurd (contains_none y there)
least_over_le f (x ∷ xs) y there = least_at_le f x xs y there

pub least_over_attained : (f : ℕ → ℕ) (xs : List ℕ) (x : ℕ) → Contains xs x → (y : ℕ) × Contains xs y × (least_over f xs ≡ f y)
least_over_attained f [] x there = absurd (contains_none x there)
least_over_attained f (y ∷ ys) x there = least_at_attained f y ys
