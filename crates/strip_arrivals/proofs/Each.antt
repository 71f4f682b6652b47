-- Lists that have each scene of a set once.
use Rattle.std.proofs.Common.{◌≡◌, ℕ, zero, suc, ◌+◌, Bool, true, false, not, ◌&&◌, cond, eqb, List, [], ◌∷◌, ◌++◌, Contains, sum_by, refl, sym, ap, ◌∙◌, subst, inl, inr, arith}
use Rattle.std.proofs.lemmas.Bool.{false≢true}
use Rattle.std.proofs.lemmas.Bool.Decides.{eqb_tells}
use Rattle.std.proofs.lemmas.List.Sums.{sum_by-cons}
use Rattle.strip_mask.specs.Set.{IsSet, has, minus, size, without}
use Rattle.strip_mask.specs.Sums.{sum_below}
use Rattle.strip_mask.proofs.ByMembers.{IsSet-without, below_64, has-empty, has-minus, has-without, has-without_other, has-without_same, has_from_minus, has_from_without, same_has, some_member, minus_none}
use Rattle.strip_mask.proofs.Sizes.{empty_from_size, size-empty, size-without}
use Rattle.strip_mask.proofs.Sums.{sum_below-none, sum_below-point}
use Rattle.strip_arrivals.specs.Along.{HasEach}
use Rattle.strip_mask.proofs.Lists.{contains_cases, contains_none}

-- each number of such a list is of the set
pub each_member : (set : ℕ) (xs : List ℕ) (x : ℕ) → HasEach set xs → Contains xs x → has set x ≡ true
each_member set [] x each there = absurd (contains_none x there)
each_member set (s ∷ xs) x (first, later) there = elim (contains_cases s xs x there) [
  | inl same ↦ subst (λ k. has set k ≡ true) same first
  | inr further ↦ (has_from_without set s x (each_member (without set s) xs x later further)).1
]

-- and stands in one part of it alone
pub each_apart : (set : ℕ) (xs ys : List ℕ) (y : ℕ) → HasEach set (xs ++ ys) → Contains ys y → (has set y ≡ true) × (Contains xs y → ⊥)
each_apart set [] ys y each there = (each_member set ys y each there, contains_none y)
each_apart set (x ∷ xs) ys y (first, later) there =
    let found = each_apart (without set x) xs ys y later there in
    let parts = has_from_without set x y found.0 in (
      parts.1,
      λ before. elim (contains_cases x xs y before) [
        | inl same ↦ parts.0 same
        | inr further ↦ found.1 further
      ],
    )

-- each set has such a list
each_listed : (n set : ℕ) → IsSet set → size set ≡ n → (xs : List ℕ) × HasEach set xs
each_listed zero set small none = ([], empty_from_size set small none)
each_listed (suc n) set small more =
    let some = some_member set small (λ none. omega (arith, more, ap size none ∙ size-empty)) in
    let rest = each_listed n (without set some.0) (IsSet-without set some.0 small) (omega (arith, more, size-without set some.0 small some.2)) in
    (some.0 ∷ rest.0, (some.2, rest.1))

pub list_of : (set : ℕ) → IsSet set → (xs : List ℕ) × HasEach set xs
list_of set small = each_listed (size set) set small refl

-- one that both have taken out of both
minus-without : (set part x : ℕ) → has part x ≡ true → minus set part ≡ minus (without set x) (without part x)
minus-without set part x there = same_has (minus set part) (minus (without set x) (without part x)) (λ i.
    has-minus set part i ∙ by_case i ∙ sym (has-minus (without set x) (without part x) i ∙ ap (λ b. b && not (has (without part x) i)) (has-without set x i)
    ∙ ap (λ b. (not (eqb x i) && has set i) && not b) (has-without part x i)))
  where
    here : (s : Bool) → (s && not true) ≡ ((not true && s) && not (not true && true))
    here true = refl
    here false = refl

    by_case : (i : ℕ) → (has set i && not (has part i)) ≡ ((not (eqb x i) && has set i) && not (not (eqb x i) && has part i))
    by_case i = elim (eqb_tells x i) [
      | inl same ↦ rw (same.0, ap (has part) (sym same.1) ∙ there) (here (has set i))
      | inr other ↦ rw other.0 refl
    ]

-- and one taken out of what is left of a set without a part
without-minus : (set part x : ℕ) → without (minus set part) x ≡ minus (without set x) part
without-minus set part x = same_has (without (minus set part) x) (minus (without set x) part) (λ i.
    has-without (minus set part) x i ∙ ap (λ b. not (eqb x i) && b) (has-minus set part i) ∙ regroup (not (eqb x i)) (has set i) (not (has part i))
    ∙ sym (has-minus (without set x) part i ∙ ap (λ b. b && not (has part i)) (has-without set x i)))
  where
    regroup : (a b c : Bool) → (a && (b && c)) ≡ ((a && b) && c)
    regroup true b c = refl
    regroup false b c = refl

-- a list of a part, and one of the others behind it
pub each_append : (set part : ℕ) (xs ys : List ℕ) → ((i : ℕ) → has part i ≡ true → has set i ≡ true) → HasEach part xs → HasEach (minus set part) ys → HasEach set (xs ++ ys)
each_append set part [] ys within none each = subst (λ s. HasEach s ys) (ap (minus set) none ∙ minus_none set) each
each_append set part (x ∷ xs) ys within (first, later) each = (
  within x first,
  each_append (without set x) (without part x) xs ys
      (λ i there. let parts = has_from_without part x i there in has-without_other set x i parts.0 ∙ within i parts.1)
      later (subst (λ s. HasEach s ys) (minus-without set part x first) each),
)

-- and with the list of the part in the midst of the others
pub each_insert : (set part : ℕ) (before xs ys : List ℕ) → ((i : ℕ) → has part i ≡ true → has set i ≡ true) → HasEach part xs → HasEach (minus set part) (before ++ ys)
    → HasEach set (before ++ (xs ++ ys))
each_insert set part [] xs ys within each_part each = each_append set part xs ys within each_part each
each_insert set part (b ∷ before) xs ys within each_part (first, later) =
    let parts = has_from_minus set part b first in (
      parts.0,
      each_insert (without set b) part before xs ys
          (λ i there. has-without_other set b i (λ same. false≢true (sym parts.1 ∙ subst (λ k. has part k ≡ true) (sym same) there)) ∙ within i there)
          each_part (subst (λ s. HasEach s (before ++ ys)) (without-minus set part b) later),
    )

-- a sum over such a list
pub sum_each : (f : ℕ → ℕ) (set : ℕ) (xs : List ℕ) → IsSet set → HasEach set xs → sum_by f xs ≡ sum_below 64 (λ i. cond {A = ℕ} (has set i) (f i) 0)
sum_each f set [] small none = sym (sum_below-none 64 (λ i. cond {A = ℕ} (has set i) (f i) 0) (λ i _. ap (λ b. cond {A = ℕ} b (f i) 0) (ap (λ (s : ℕ). has s i) none ∙ has-empty i)))
sum_each f set (x ∷ xs) small (first, later) =
    let all : ℕ → ℕ = λ i. cond {A = ℕ} (has set i) (f i) 0 in
    let others : ℕ → ℕ = λ i. cond {A = ℕ} (has (without set x) i) (f i) 0 in
    let apart : sum_below 64 all + others x ≡ sum_below 64 others + all x
    = sum_below-point 64 x all others (below_64 set x small first) (λ i _ other. ap (λ b. cond {A = ℕ} b (f i) 0) (sym (has-without_other set x i other))) in
    let here : all x ≡ f x = ap (λ b. cond {A = ℕ} b (f x) 0) first in
    let gone : others x ≡ 0 = ap (λ b. cond {A = ℕ} b (f x) 0) (has-without_same set x) in
    omega (arith, apart, here, gone, sum_by-cons f x xs, sum_each f (without set x) xs (IsSet-without set x small) later)
