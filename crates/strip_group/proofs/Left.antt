-- The scenes that are left by a set of places.
use Rattle.std.proofs.Common.{◌≡◌, ℕ, zero, suc, ◌<◌, Bool, true, false, cond, List, slice_index, refl, sym, ap, ◌∙◌, subst, inl, inr, arith}
use Rattle.std.proofs.lemmas.Bool.{cases_eq, false≢true, and_from, cases_Bool}
use Rattle.strip_mask.specs.Set.{has, meet, with, without}
use Rattle.strip_mask.proofs.ByMembers.{has-empty, has-meet, has-with_other, has-with_same, has_from_meet, has-without_other}
use Rattle.strip_group.specs.Saved.{left_by}

-- a place more that the set has, or lacks
pub left_with : (stays : List ℕ) (n set scenes : ℕ) → has set n ≡ true → left_by stays (suc n) set scenes ≡ left_by stays n set (meet scenes (slice_index stays n))
left_with stays n set scenes there = ap (λ (b : Bool). left_by stays n set (cond {A = ℕ} b (meet scenes (slice_index stays n)) scenes)) there

pub left_out : (stays : List ℕ) (n set scenes : ℕ) → has set n ≡ false → left_by stays (suc n) set scenes ≡ left_by stays n set scenes
left_out stays n set scenes missing = ap (λ (b : Bool). left_by stays n set (cond {A = ℕ} b (meet scenes (slice_index stays n)) scenes)) missing

-- of two sets that have the same of these places
pub left_same : (stays : List ℕ) (n a b scenes : ℕ) → ((place : ℕ) → place < n → has a place ≡ has b place) → left_by stays n a scenes ≡ left_by stays n b scenes
left_same stays zero a b scenes same = refl
left_same stays (suc n) a b scenes same =
    left_same stays n a b (cond {A = ℕ} (has a n) (meet scenes (slice_index stays n)) scenes) (λ place lt. same place (omega (arith, lt)))
    ∙ ap (λ (x : Bool). left_by stays n b (cond {A = ℕ} x (meet scenes (slice_index stays n)) scenes)) (same n (omega arith))

-- of the set without this place
pub left_without : (stays : List ℕ) (n set scenes : ℕ) → left_by stays n (without set n) scenes ≡ left_by stays n set scenes
left_without stays n set scenes = left_same stays n (without set n) set scenes (λ place lt. has-without_other set n place (λ same. omega (arith, lt, same)))

-- what is left is of the scenes, and stays at each place of the set
pub has_from_left : (stays : List ℕ) (n set scenes i : ℕ) → has (left_by stays n set scenes) i ≡ true
    → (has scenes i ≡ true) × ((place : ℕ) → place < n → has set place ≡ true → has (slice_index stays place) i ≡ true)
has_from_left stays zero set scenes i there = (there, λ place lt _. absurd (omega (arith, lt)))
has_from_left stays (suc n) set scenes i there = elim (cases_Bool (has set n)) [
  | inl in_set ↦ (
      let found = has_from_left stays n set (meet scenes (slice_index stays n)) i (ap (λ (s : ℕ). has s i) (sym (left_with stays n set scenes in_set)) ∙ there) in
      let both = has_from_meet scenes (slice_index stays n) i found.0 in (
        both.0,
        λ place lt here. elim (cases_eq place n) [
          | inl is ↦ subst (λ (k : ℕ). has (slice_index stays k) i ≡ true) (sym is) both.1
          | inr other ↦ found.1 place (omega (arith, lt, other)) here
        ],
      ))
  | inr out ↦ (
      let found = has_from_left stays n set scenes i (ap (λ (s : ℕ). has s i) (sym (left_out stays n set scenes out)) ∙ there) in (
        found.0,
        λ place lt here. elim (cases_eq place n) [
          | inl is ↦ absurd (false≢true (sym out ∙ ap (has set) (sym is) ∙ here))
          | inr other ↦ found.1 place (omega (arith, lt, other)) here
        ],
      ))
]

-- and the other way
pub has_left : (stays : List ℕ) (n set scenes i : ℕ) → has scenes i ≡ true → ((place : ℕ) → place < n → has set place ≡ true → has (slice_index stays place) i ≡ true)
    → has (left_by stays n set scenes) i ≡ true
has_left stays zero set scenes i there stay = there
has_left stays (suc n) set scenes i there stay = elim (cases_Bool (has set n)) [
  | inl in_set ↦ ap (λ (s : ℕ). has s i) (left_with stays n set scenes in_set)
      ∙ has_left stays n set (meet scenes (slice_index stays n)) i (has-meet scenes (slice_index stays n) i ∙ and_from (has scenes i) (has (slice_index stays n) i) there
      (stay n (omega arith) in_set))
      (λ place lt. stay place (omega (arith, lt)))
  | inr out ↦ ap (λ (s : ℕ). has s i) (left_out stays n set scenes out) ∙ has_left stays n set scenes i there (λ place lt. stay place (omega (arith, lt)))
]

-- of no place, and of one
left_nothing : (stays : List ℕ) (n scenes : ℕ) → left_by stays n 0 scenes ≡ scenes
left_nothing stays zero scenes = refl
left_nothing stays (suc n) scenes = left_out stays n 0 scenes (has-empty n) ∙ left_nothing stays n scenes

pub left_alone : (stays : List ℕ) (n place scenes : ℕ) → place < n → left_by stays n (with 0 place) scenes ≡ meet scenes (slice_index stays place)
left_alone stays zero place scenes lt = absurd (omega (arith, lt))
left_alone stays (suc n) place scenes lt = elim (cases_eq place n) [
  | inl is ↦ left_with stays n (with 0 place) scenes (subst (λ (k : ℕ). has (with 0 place) k ≡ true) is (has-with_same 0 place))
      ∙ left_same stays n (with 0 place) 0 (meet scenes (slice_index stays n)) (λ other below. has-with_other 0 place other (λ same. omega (arith, below, is, same)))
      ∙ left_nothing stays n (meet scenes (slice_index stays n)) ∙ ap (λ (k : ℕ). meet scenes (slice_index stays k)) (sym is)
  | inr other ↦ left_out stays n (with 0 place) scenes (has-with_other 0 place n other ∙ has-empty n) ∙ left_alone stays n place scenes (omega (arith, lt, other))
]
