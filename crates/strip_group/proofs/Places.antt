-- The actors of a group by place.
use Rattle.std.proofs.Common.{◌≡◌, ◌≢◌, ℕ, zero, suc, ◌+◌, ◌<◌, ◌≤◌, Bool, true, false, not, set, sum, get_or-set_same, get_or-set_other, cond}
use Rattle.std.proofs.Common.{List, ◌∷◌, ◌++◌, Contains, get_or, slice_index, length, sym, ap, ◌∙◌, subst, inl, inr, arith, length-append}
use Rattle.std.proofs.Math.Seq.{get_or-append_seam}
use Rattle.std.proofs.lemmas.Bool.{cases_lt, cases_eq, false≢true, cases_Bool, false_from_ne_true}
use Rattle.std.proofs.lemmas.Grind.{get_or_default_zero}
use Rattle.std.proofs.lemmas.List.{get_or_past}
use Rattle.std.proofs.lemmas.List.Sums.{get_or-le-sum_by}
use Rattle.std.proofs.lemmas.List.Kept.{AllPairs-from_increasing}
use Rattle.std.proofs.lemmas.Nat.{and_le_l}
use Rattle.strip_mask.specs.Set.{IsSet, LiesBelow, full, has, meet, members, size, with, without}
use Rattle.strip_mask.proofs.ByMembers.{empty_from, has-empty, has-with_same, has-with_other}
use Rattle.strip_mask.proofs.ByMembers.{has-without_other, has_from_with, has_from_without, same_has}
use Rattle.strip_mask.proofs.Below.{has_full}
use Rattle.strip_mask.proofs.Members.{Contains-members, members_in, members_rise}
use Rattle.strip_mask.proofs.Sizes.{length-members}
use Rattle.strip_group.specs.Places.{actor_at, picked, pick}
use Rattle.strip_mask.proofs.Agree.{same_test}

-- ---- the actor at a place

-- of a turn over the group
pub turn_at : (group i : ℕ) (done rest left : List ℕ) → done ++ rest ≡ members group → rest ≡ i ∷ left → (actor_at group (length done) ≡ i) × (length done < size group)
turn_at group i done rest left all here =
    let whole : done ++ i ∷ left ≡ members group = ap (λ (xs : List ℕ). done ++ xs) (sym here) ∙ all in
    let long : length done + length (i ∷ left) ≡ size group = sym (length-append done (i ∷ left)) ∙ ap length whole ∙ length-members group in
    (ap (λ (xs : List ℕ). get_or xs (length done) 0) (sym whole) ∙ get_or-append_seam done i left 0, omega (arith, long))

pub actor_there : (group place : ℕ) → place < size group → has group (actor_at group place) ≡ true
actor_there group place lt = members_in group place 0 (let long : length (members group) ≡ size group = length-members group in omega (arith, long, lt))

pub place_of : (group i : ℕ) → IsSet group → has group i ≡ true → (place : ℕ) × (place < size group) × (actor_at group place ≡ i)
place_of group i small there =
    let found : Contains (members group) i = Contains-members group i small there in (
      found.0,
      (let long : length (members group) ≡ size group = length-members group in omega (arith, long, found.1)),
      sym (get_or_default_zero
          (members group) found.0 i found.1) ∙ found.2,
    )

pub places_apart : (group i j : ℕ) → i < size group → j < size group → i ≢ j → actor_at group i ≢ actor_at group j
places_apart group i j here there other same =
    let long : length (members group) ≡ size group = length-members group in
    elim (cases_lt i j) [
      | inl less ↦ (let rise : actor_at group i < actor_at group j = AllPairs-from_increasing (members group) (members_rise group) i j 0 less (omega
          (arith, long, there)) in omega (arith, rise, same))
      | inr more ↦ (let rise : actor_at group j < actor_at group i = AllPairs-from_increasing (members group) (members_rise group) j i 0 (omega (arith, more, other)) (omega
          (arith, long, here)) in omega (arith, rise, same))
    ]

-- ---- the actors at the places of a set

pub picked_with : (group set n : ℕ) → has set n ≡ true → picked group set (suc n) ≡ with (picked group set n) (actor_at group n)
picked_with group set n there = ap (λ (b : Bool). cond {A = ℕ} b (with (picked group set n) (actor_at group n)) (picked group set n)) there

pub picked_past : (group set n : ℕ) → has set n ≡ false → picked group set (suc n) ≡ picked group set n
picked_past group set n missing = ap (λ (b : Bool). cond {A = ℕ} b (with (picked group set n) (actor_at group n)) (picked group set n)) missing

pub has_from_picked : (group set n i : ℕ) → has (picked group set n) i ≡ true → (place : ℕ) × (place < n) × (has set place ≡ true) × (actor_at group place ≡ i)
has_from_picked group set zero i there = absurd (false≢true (sym (has-empty i) ∙ there))
has_from_picked group set (suc n) i there =
    let ih : has (picked group set n) i ≡ true → (place : ℕ) × (place < suc n) × (has set place ≡ true) × (actor_at group place ≡ i)
    = λ before. (let found = has_from_picked group set n i before in (found.0, omega (arith, found.1), found.2, found.3)) in
    elim (cases_Bool (has set n)) [
      | inl in_set ↦ elim (has_from_with (picked group set n) (actor_at group n) i (ap (λ (s : ℕ). has s i) (sym (picked_with group set n in_set)) ∙ there)) [
        | inl is ↦ (n, omega arith, in_set, is)
        | inr before ↦ ih before
      ]
      | inr out ↦ ih (ap (λ (s : ℕ). has s i) (sym (picked_past group set n out)) ∙ there)
    ]

has_picked : (group set n place : ℕ) → place < n → has set place ≡ true → has (picked group set n) (actor_at group place) ≡ true
has_picked group set zero place lt there = absurd (omega (arith, lt))
has_picked group set (suc n) place lt there = elim (cases_eq place n) [
  | inl is ↦ ap (λ (s : ℕ). has s (actor_at group place)) (picked_with group set n (ap (has set) (sym is) ∙ there))
      ∙ ap (λ (k : ℕ). has (with (picked group set n) (actor_at group n)) (actor_at group k)) is ∙ has-with_same (picked group set n) (actor_at group n)
  | inr other ↦ (let before : has (picked group set n) (actor_at group place) ≡ true = has_picked group set n place (omega (arith, lt, other)) there in
      elim (cases_Bool (has set n)) [
        | inl in_set ↦ ap (λ (s : ℕ). has s (actor_at group place)) (picked_with group set n in_set) ∙ has_with (picked group set n) (actor_at group n)
            (actor_at group place) before
        | inr out ↦ ap (λ (s : ℕ). has s (actor_at group place)) (picked_past group set n out) ∙ before
      ])
]
  where
    has_with : (a i j : ℕ) → has a j ≡ true → has (with a i) j ≡ true
    has_with a i j there = elim (cases_eq i j) [
      | inl same ↦ subst (λ (k : ℕ). has (with a i) k ≡ true) same (has-with_same a i)
      | inr other ↦ has-with_other a i j other ∙ there
    ]

pub has_from_pick : (group set i : ℕ) → has (pick group set) i ≡ true → (place : ℕ) × (place < size group) × (has set place ≡ true) × (actor_at group place ≡ i)
has_from_pick group set i there = has_from_picked group set (size group) i there

pub has_pick : (group set place : ℕ) → place < size group → has set place ≡ true → has (pick group set) (actor_at group place) ≡ true
has_pick group set place lt there = has_picked group set (size group) place lt there

pub pick-empty : (group : ℕ) → pick group 0 ≡ 0
pick-empty group = empty_from (pick group 0) (λ i. false_from_ne_true (has (pick group 0) i) (λ there. (let found = has_from_pick group 0 i there in false≢true (sym (has-empty found.0)
    ∙ found.2))))

pub pick-full : (group : ℕ) → IsSet group → pick group (full (size group)) ≡ group
pick-full group small = same_has (pick group (full (size group))) group (λ i. same_test (has (pick group (full (size group))) i) (has group i)
    (λ there. (let found = has_from_pick group (full (size group)) i there in ap (has group) (sym found.3) ∙ actor_there group found.0 found.1))
    (λ there. (let found = place_of group i small there in
    subst (λ (k : ℕ). has (pick group (full (size group))) k ≡ true) found.2 (has_pick group (full (size group)) found.0 found.1 (has_full (size group) found.0 found.1)))))

pub pick-one : (group place : ℕ) → place < size group → pick group (with 0 place) ≡ with 0 (actor_at group place)
pick-one group place lt = same_has (pick group (with 0 place)) (with 0 (actor_at group place)) (λ i. same_test (has (pick group (with 0 place)) i) (has (with 0
    (actor_at group place)) i)
    (λ there. (let found = has_from_pick group (with 0 place) i there in elim (has_from_with 0 place found.0 found.2) [
      | inl is ↦ subst (λ (k : ℕ). has (with 0 (actor_at group place)) k ≡ true) (ap (actor_at group) is ∙ found.3) (has-with_same 0 (actor_at group place))
      | inr none ↦ absurd (false≢true (sym (has-empty found.0) ∙ none))
    ]))
    (λ there. elim (has_from_with 0 (actor_at group place) i there) [
      | inl is ↦ subst (λ (k : ℕ). has (pick group (with 0 place)) k ≡ true) is (has_pick group (with 0 place) place lt (has-with_same 0 place))
      | inr none ↦ absurd (false≢true (sym (has-empty i) ∙ none))
    ]))

pub pick-without : (group set place : ℕ) → place < size group → pick group (without set place) ≡ without (pick group set) (actor_at group place)
pick-without group set place lt = same_has (pick group (without set place)) (without (pick group set) (actor_at group place)) (λ i. same_test (has (pick group
    (without set place)) i) (has (without (pick group set) (actor_at group place)) i)
    (λ there. (let found = has_from_pick group (without set place) i there in
    let parts = has_from_without set place found.0 found.2 in
    subst (λ (k : ℕ). has (without (pick group set) (actor_at group place)) k ≡ true) found.3
    (has-without_other (pick group set) (actor_at group place) (actor_at group found.0) (places_apart group place found.0 lt found.1 parts.0)
    ∙ has_pick group set found.0 found.1 parts.1)))
    (λ there. (let parts = has_from_without (pick group set) (actor_at group place) i there in
    let found = has_from_pick group set i parts.1 in
    subst (λ (k : ℕ). has (pick group (without set place)) k ≡ true) found.3
    (has_pick group (without set place) found.0 found.1 (has-without_other set place found.0 (λ same. parts.0 (ap (actor_at group) same ∙ found.3)) ∙ found.2)))))

-- ---- numbers not yet written

pub written_small : (xs : List ℕ) (i x most : ℕ) → i < length xs → ((k : ℕ) → slice_index xs k ≤ most) → x ≤ most → (k : ℕ) → slice_index (set xs i x) k ≤ most
written_small xs i x most within before small k = elim (cases_eq k i) [
  | inl is ↦ subst (λ (j : ℕ). slice_index (set xs i x) j ≤ most) (sym is) (omega (arith, get_or-set_same xs i x 0 within, small))
  | inr other ↦ omega (arith, get_or-set_other xs i k x 0 other, before k)
]

pub slice_le_sum : (xs : List ℕ) (i : ℕ) → slice_index xs i ≤ sum xs
slice_le_sum xs i = elim (cases_lt i (length xs)) [
  | inl lt ↦ get_or-le-sum_by (λ x. x) xs i 0 lt
  | inr past ↦ omega (arith, get_or_past xs i 0 past)
]

pub meet_most : (a b : ℕ) → meet a b ≤ a
unfolding meet
meet_most a b = and_le_l a b

-- ---- the scenes without an actor, so far

module _ (casts : List ℕ) (actor scene scenes : ℕ) (told : (s : ℕ) → s < scene → has scenes s ≡ not (has (slice_index casts s) actor)) where
  pub told_with : has (slice_index casts scene) actor ≡ false → (s : ℕ) → s < scene + 1 → has (with scenes scene) s ≡ not (has (slice_index casts s) actor)
  told_with lacks s lt = elim (cases_eq scene s) [
    | inl is ↦ subst (λ (k : ℕ). has (with scenes scene) k ≡ not (has (slice_index casts k) actor)) is (has-with_same scenes scene ∙ ap not (sym lacks))
    | inr other ↦ has-with_other scenes scene s other ∙ told s (omega (arith, lt, other))
  ]

  pub told_past : LiesBelow scene scenes → has (slice_index casts scene) actor ≡ true → (s : ℕ) → s < scene + 1 → has scenes s ≡ not (has (slice_index casts s) actor)
  told_past lies works s lt = elim (cases_eq scene s) [
    | inl is ↦ subst (λ (k : ℕ). has scenes k ≡ not (has (slice_index casts k) actor)) is (false_from_ne_true (has scenes scene) (λ there. (let below = lies scene there in omega
        (arith, below))) ∙ ap not (sym works))
    | inr other ↦ told s (omega (arith, lt, other))
  ]
