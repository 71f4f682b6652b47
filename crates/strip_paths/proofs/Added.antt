-- Paths with one more: what holds of each, that they leave different scenes, and what they pay.
use Rattle.std.proofs.Common.{◌≡◌, ◌≢◌, ℕ, zero, suc, ◌+◌, ◌≤◌, cond, eqb, ltb, List, [], ◌∷◌, length, fold, All, Contains, ◌⊎◌, inl, inr, refl, sym, ap, ◌∙◌, subst, arith}
use Rattle.std.specs.List.{AllPairs}
use Rattle.std.proofs.lemmas.Bool.{cond_both, eqb-true, eqb-false, ltb-true, ltb-false}
use Rattle.std.proofs.lemmas.List.Elements.{All-nil, All-cons, All-head, All-tail}
use Rattle.strip_model.proofs.Lists.{contains_cases, contains_here, contains_later, contains_none}
use Rattle.strip_film.specs.Path.{PathData}
use Rattle.strip_paths.specs.Paths.{with_path}

-- the one that stays at a place: the path, where it pays less than the task
abbrev cheaper : PathData → PathData → PathData
cheaper path task = cond (ltb path.paid task.paid) path task

cheaper_one : (P : PathData → Type 0) (path task : PathData) → P path → P task → P (cheaper path task)
cheaper_one P path task one two = cond_both (ltb path.paid task.paid) path task P (λ _. one) (λ _. two)

-- ---- what holds of each

pub each_with : (P : PathData → Type 0) (tasks : List PathData) (path : PathData) → All P tasks → P path → All P (with_path tasks path)
each_with P [] path are is = All-cons P path [] is (All-nil P)
each_with P (task ∷ tasks) path are is =
    cond_both (eqb task.rest path.rest) (cheaper path task ∷ tasks) (task ∷ with_path tasks path) (All P)
    (λ _. All-cons P (cheaper path task) tasks (cheaper_one P path task is (All-head P task tasks are)) (All-tail P task tasks are))
    (λ _. All-cons P task (with_path tasks path) (All-head P task tasks are) (each_with P tasks path (All-tail P task tasks are) is))

pub each_of : (P : PathData → Type 0) (tasks paths : List PathData) → All P tasks → All P paths → All P (fold with_path tasks paths)
each_of P tasks [] are is = are
each_of P tasks (path ∷ paths) are is =
    each_of P (with_path tasks path) paths (each_with P tasks path are (All-head P path paths is)) (All-tail P path paths is)

-- ---- they leave different scenes

abbrev pub Differs : PathData → PathData → Type 0
Differs one other = one.rest ≢ other.rest

-- it holds of each and each later one
abbrev pub EachPair : (PathData → PathData → Type 0) → List PathData → Type 0
EachPair R [] = Unit {0}
EachPair R (task ∷ tasks) = All (R task) tasks × EachPair R tasks

abbrev pub AreApart : List PathData → Type 0
AreApart tasks = EachPair Differs tasks

pub apart_with : (tasks : List PathData) (path : PathData) → AreApart tasks → AreApart (with_path tasks path)
apart_with [] path apart = (All-nil (Differs path), tt)
apart_with (task ∷ tasks) path apart =
    cond_both (eqb task.rest path.rest) (cheaper path task ∷ tasks) (task ∷ with_path tasks path) AreApart
    (λ same. (
      cheaper_one (λ one. All (Differs one) tasks) path task
          (subst (λ (rest : ℕ). All (λ other. rest ≢ other.rest) tasks) (eqb-true task.rest path.rest same) apart.0) apart.0,
      apart.1,
    ))
    (λ other. (each_with (Differs task) tasks path apart.0 (eqb-false task.rest path.rest other), apart_with tasks path apart.1))

pub apart_of : (tasks paths : List PathData) → AreApart tasks → AreApart (fold with_path tasks paths)
apart_of tasks [] apart = apart
apart_of tasks (path ∷ paths) apart = apart_of (with_path tasks path) paths (apart_with tasks path apart)

pub pairs_of : (R : PathData → PathData → Type 0) (tasks : List PathData) → EachPair R tasks → AllPairs R tasks
pairs_of R [] pairs i j d before within = absurd (omega (arith, within))
pairs_of R (task ∷ tasks) pairs zero zero d before within = absurd (omega (arith, before))
pairs_of R (task ∷ tasks) pairs zero (suc j) d before within = pairs.0 j d (omega (arith, within))
pairs_of R (task ∷ tasks) pairs (suc i) zero d before within = absurd (omega (arith, before))
pairs_of R (task ∷ tasks) pairs (suc i) (suc j) d before within = pairs_of R tasks pairs.1 i j d (omega (arith, before)) (omega (arith, within))

-- ---- they pay no more

-- a task leaves this set and pays this much at most
abbrev pub Pays : List PathData → ℕ → ℕ → Type 0
Pays tasks rest most = (task : PathData) × Contains tasks task × (task.rest ≡ rest) × (task.paid ≤ most)

pays_later : (task : PathData) (tasks : List PathData) (rest most : ℕ) → Pays tasks rest most → Pays (task ∷ tasks) rest most
pays_later task tasks rest most found = (found.0, contains_later task tasks found.0 found.1, found.2, found.3)

pays_here : (task : PathData) (tasks : List PathData) (rest most : ℕ) → task.rest ≡ rest → task.paid ≤ most → Pays (task ∷ tasks) rest most
pays_here task tasks rest most same less = (task, contains_here task tasks, same, less)

-- of two that leave the same set the cheaper one pays no more than either
cheaper_pays : (path task : PathData) (tasks : List PathData) (rest most : ℕ) → task.rest ≡ path.rest → task.rest ≡ rest
    → (path.paid ≤ most) ⊎ (task.paid ≤ most) → Pays (cheaper path task ∷ tasks) rest most
cheaper_pays path task tasks rest most same is one =
    cond_both (ltb path.paid task.paid) path task (λ p. Pays (p ∷ tasks) rest most)
    (λ less. pays_here path tasks rest most (sym same ∙ is) (elim one [
      | inl this ↦ this
      | inr that ↦ omega (arith, that, ltb-true path.paid task.paid less)
    ]))
    (λ more. pays_here task tasks rest most is (elim one [
      | inl this ↦ omega (arith, this, ltb-false path.paid task.paid more)
      | inr that ↦ that
    ]))

pub pays_still : (tasks : List PathData) (path : PathData) (rest most : ℕ) → Pays tasks rest most → Pays (with_path tasks path) rest most
pays_still [] path rest most found = absurd (contains_none found.0 found.1)
pays_still (task ∷ tasks) path rest most found =
    cond_both (eqb task.rest path.rest) (cheaper path task ∷ tasks) (task ∷ with_path tasks path) (λ all. Pays all rest most)
    (λ same. elim (contains_cases task tasks found.0 found.1) [
      | inl here ↦ cheaper_pays path task tasks rest most (eqb-true task.rest path.rest same)
          (ap (λ (p : PathData). p.rest) here ∙ found.2)
          (inr (let e : task.paid ≡ found.0.paid = ap (λ (p : PathData). p.paid) here in omega (arith, e, found.3)))
      | inr later ↦ pays_later (cheaper path task) tasks rest most (found.0, later, found.2, found.3)
    ])
    (λ other. elim (contains_cases task tasks found.0 found.1) [
      | inl here ↦ pays_here task (with_path tasks path) rest most (ap (λ (p : PathData). p.rest) here ∙ found.2)
          (let e : task.paid ≡ found.0.paid = ap (λ (p : PathData). p.paid) here in omega (arith, e, found.3))
      | inr later ↦ pays_later task (with_path tasks path) rest most (pays_still tasks path rest most (found.0, later, found.2, found.3))
    ])

pub pays_new : (tasks : List PathData) (path : PathData) → Pays (with_path tasks path) path.rest path.paid
pays_new [] path = pays_here path [] path.rest path.paid refl (omega arith)
pays_new (task ∷ tasks) path =
    cond_both (eqb task.rest path.rest) (cheaper path task ∷ tasks) (task ∷ with_path tasks path) (λ all. Pays all path.rest path.paid)
    (λ same. cheaper_pays path task tasks path.rest path.paid (eqb-true task.rest path.rest same) (eqb-true task.rest path.rest same) (inl (omega arith)))
    (λ other. pays_later task (with_path tasks path) path.rest path.paid (pays_new tasks path))

pub pays_kept : (tasks paths : List PathData) (rest most : ℕ) → Pays tasks rest most → Pays (fold with_path tasks paths) rest most
pays_kept tasks [] rest most found = found
pays_kept tasks (path ∷ paths) rest most found = pays_kept (with_path tasks path) paths rest most (pays_still tasks path rest most found)

pub pays_of : (tasks paths : List PathData) (path : PathData) → Contains paths path → Pays (fold with_path tasks paths) path.rest path.paid
pays_of tasks [] path there = absurd (contains_none path there)
pays_of tasks (other ∷ paths) path there = elim (contains_cases other paths path there) [
  | inl here ↦ subst (λ (p : PathData). Pays (fold with_path (with_path tasks other) paths) p.rest p.paid) here
      (pays_kept (with_path tasks other) paths other.rest other.paid (pays_new tasks other))
  | inr later ↦ pays_of (with_path tasks other) paths path later
]

-- ---- how many they are

more_with : (tasks : List PathData) (path : PathData) → length (with_path tasks path) ≤ length tasks + 1
more_with [] path = omega arith
more_with (task ∷ tasks) path =
    cond_both (eqb task.rest path.rest) (cheaper path task ∷ tasks) (task ∷ with_path tasks path) (λ all. length all ≤ length (task ∷ tasks) + 1)
    (λ _. omega arith) (λ _. omega (arith, more_with tasks path))

pub more_of : (tasks paths : List PathData) → length (fold with_path tasks paths) ≤ length tasks + length paths
more_of tasks [] = omega arith
more_of tasks (path ∷ paths) = omega (arith, more_of (with_path tasks path) paths, more_with tasks path)
