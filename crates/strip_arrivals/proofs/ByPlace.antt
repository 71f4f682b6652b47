-- A group by the places of its actors: what they get, and who of them works in a scene.
use Rattle.std.proofs.Common.{◌≡◌, ◌≢◌, ℕ, zero, suc, ◌+◌, ◌^◌, ◌<◌, ◌≤◌, ◌==◌, ◌⊎◌, Bool, true, false, not, ◌&&◌, cond, eqb, List, [], ◌∷◌, ◌++◌, Contains, set, get_or-set_same, get_or-set_other, length, slice_index, refl, sym, ap, ◌∙◌, subst, inl, inr, arith}
use Rattle.std.proofs.lemmas.Bool.{cases_eq, eq-eqb, eqb-true, false≢true, false_from_ne_true, or_right, and_from, cases_Bool}
use Rattle.strip_mask.specs.Set.{IsSet, LiesBelow, full, has, meet, minus, size, sum_over, with}
use Rattle.strip_mask.specs.Sums.{sum_below}
use Rattle.strip_mask.proofs.ByMembers.{below_64, below_width, empty_from, has-meet, has-minus, has-with, has-with_other, has-with_same, has_from_meet, has_from_minus, has_from_with, same_has, with_there, empty_has}
use Rattle.strip_mask.proofs.Below.{has_full}
use Rattle.strip_mask.proofs.Sizes.{size-le}
use Rattle.strip_mask.proofs.Sums.{sum_below-ext, sum_below-past, sum_below-suc, sum_below-zero}
use Rattle.strip_mask.proofs.Totals.{sum_over-empty, sum_over-minus, sum_over-with, sum_over_is, sum_over_mono}
use Rattle.strip_group.specs.Group.{GroupData}
use Rattle.strip_group.specs.Places.{actor_at, pick, picked}
use Rattle.strip_arrivals.specs.Arrivals.{actors_of, is_without, mates}
use Rattle.strip_arrivals.specs.Company.{IsCrew}
use Rattle.strip_arrivals.specs.declared.crew.Crew.{Crew}
use Rattle.strip_arrivals.proofs.Casts.{has_listed, has_mates, is_none, listed_has, mates_has, none_works, some_works}
use Rattle.strip_arrivals.proofs.Newcomers.{actors_more}
use Rattle.strip_mask.proofs.Agree.{same_test}
use Rattle.strip_sets.proofs.Sets.{lies_small}
use Rattle.strip_group.proofs.Places.{actor_there, has_from_pick, has_from_picked, has_pick, picked_past, picked_with, place_of, places_apart}

-- ---- numbers that are written one by one

-- a list with one number more
has_more : (numbers : List ℕ) (number i : ℕ) → has (actors_of (numbers ++ number ∷ [])) i ≡ has (with (actors_of numbers) number) i
has_more numbers number i = actors_more numbers number i ∙ sym (has-with (actors_of numbers) number i)

-- what it had stays in it
pub listed_before : (numbers : List ℕ) (number i : ℕ) → Contains numbers i → Contains (numbers ++ number ∷ []) i
listed_before numbers number i there = listed_has (numbers ++ number ∷ []) i
    (has_more numbers number i ∙ has-with (actors_of numbers) number i ∙ or_right (eqb number i) (has (actors_of numbers) i) (has_listed numbers i there))

-- the number is in it
pub listed_last : (numbers : List ℕ) (number : ℕ) → Contains (numbers ++ number ∷ []) number
listed_last numbers number = listed_has (numbers ++ number ∷ []) number (has_more numbers number number ∙ has-with_same (actors_of numbers) number)

-- and nothing else
pub listed_more : (numbers : List ℕ) (number i : ℕ) → Contains (numbers ++ number ∷ []) i → Contains numbers i ⊎ (number ≡ i)
listed_more numbers number i there =
    elim (has_from_with (actors_of numbers) number i (sym (has_more numbers number i) ∙ has_listed (numbers ++ number ∷ []) i there)) [
      | inl is ↦ inr is
      | inr before ↦ inl (listed_has numbers i before)
    ]

-- what is written at the places so far, when it is written at one more
pub each_written : (xs done : List ℕ) (i x : ℕ) (f g : ℕ → ℕ) → i < length xs → ((k : ℕ) → slice_index xs k ≡ cond {A = ℕ} (has (actors_of done) k) (f k) (g k)) → x ≡ f i
    → (k : ℕ) → slice_index (set xs i x) k ≡ cond {A = ℕ} (has (actors_of (done ++ i ∷ [])) k) (f k) (g k)
each_written xs done i x f g within told here k = elim (cases_eq i k) [
  | inl is ↦ subst (λ (j : ℕ). slice_index (set xs i x) j ≡ cond {A = ℕ} (has (actors_of (done ++ i ∷ [])) j) (f j) (g j)) is
      (get_or-set_same xs i x 0 within ∙ here ∙ sym (ap (λ (b : Bool). cond {A = ℕ} b (f i) (g i)) (has_more done i i ∙ has-with_same (actors_of done) i)))
  | inr other ↦ get_or-set_other xs i k x 0 (λ same. other (sym same)) ∙ told k
      ∙ sym (ap (λ (b : Bool). cond {A = ℕ} b (f k) (g k)) (has_more done i k ∙ has-with_other (actors_of done) i k other))
]

-- ---- what those at some places get

module _ (group : ℕ) (small : IsSet group) (film_holds holds : List ℕ) (told : (place : ℕ) → place < size group → slice_index holds place ≡ slice_index film_holds (actor_at group place)) where
  -- at the first places
  sum_picked : (places n : ℕ) → n ≤ size group → sum_below n (λ place. cond {A = ℕ} (has places place) (slice_index holds place) 0) ≡ sum_over film_holds (picked group places n)
  sum_picked places zero within = sum_below-zero (λ place. cond {A = ℕ} (has places place) (slice_index holds place) 0) ∙ sym (sum_over-empty film_holds)
  sum_picked places (suc n) within =
      let before = sum_picked places n (omega (arith, within)) in
      let lt : n < size group = omega (arith, within) in
      let step = sum_below-suc n (λ place. cond {A = ℕ} (has places place) (slice_index holds place) 0) in
      elim (cases_Bool (has places n)) [
        | inl there ↦ (
            let absent : has (picked group places n) (actor_at group n) ≡ false
            = false_from_ne_true (has (picked group places n) (actor_at group n)) (λ member. (let found = has_from_picked group places n (actor_at group n) member in
            places_apart group found.0 n (omega (arith, found.1, lt)) lt (λ is. omega (arith, is, found.1)) found.3)) in
            let whole : sum_over film_holds (picked group places (suc n)) ≡ sum_over film_holds (picked group places n) + slice_index film_holds (actor_at group n)
            = ap (sum_over film_holds) (picked_with group places n there)
            ∙ sum_over-with film_holds (picked group places n) (actor_at group n) (below_64 group (actor_at group n) small (actor_there group n lt)) absent in
            let here : cond {A = ℕ} (has places n) (slice_index holds n) 0 ≡ slice_index holds n = ap (λ (b : Bool). cond {A = ℕ} b (slice_index holds n) 0) there in
            omega (arith, step, before, whole, here, told n lt))
        | inr missing ↦ (
            let whole : sum_over film_holds (picked group places (suc n)) ≡ sum_over film_holds (picked group places n) = ap (sum_over film_holds) (picked_past group places n missing) in
            let here : cond {A = ℕ} (has places n) (slice_index holds n) 0 ≡ 0 = ap (λ (b : Bool). cond {A = ℕ} b (slice_index holds n) 0) missing in
            omega (arith, step, before, whole, here))
      ]

  module _ (none : (place : ℕ) → size group ≤ place → slice_index holds place ≡ 0) where
    -- at all places that a set has
    pub sum_by_place : (places : ℕ) → sum_over holds places ≡ sum_over film_holds (pick group places)
    sum_by_place places =
        sum_over_is holds places
        ∙ sum_below-past (size group) 64 (λ place. cond {A = ℕ} (has places place) (slice_index holds place) 0) (size-le group) (λ place past lt.
        nothing (has places place) (slice_index holds place) (none place past))
        ∙ sum_picked places (size group) (omega arith)
      where
        nothing : (b : Bool) (n : ℕ) → n ≡ 0 → cond {A = ℕ} b n 0 ≡ 0
        nothing true n is = is
        nothing false n is = refl

-- no more than the whole group
pub pick_most : (group : ℕ) (film_holds : List ℕ) (places : ℕ) → sum_over film_holds (pick group places) ≤ sum_over film_holds group
pick_most group film_holds places = sum_over_mono film_holds (pick group places) group (λ i there. (let found = has_from_pick group places i there in
    ap (has group) (sym found.3) ∙ actor_there group found.0 found.1))

-- ---- a cast

-- a place that may be there already
pub with_chosen : (there : Bool) (set place : ℕ) → with (cond {A = ℕ} there (with set place) set) place ≡ with set place
with_chosen true set place = with_there (with set place) place (has-with_same set place)
with_chosen false set place = refl

-- with one place more where its actor works
pub cast_more : (before after place : ℕ) (works : Bool) → LiesBelow place before → (works ≡ true → after ≡ with before place) → (works ≡ false → after ≡ before)
    → (has after place ≡ works) × ((i : ℕ) → i ≢ place → has after i ≡ has before i) × LiesBelow (place + 1) after
cast_more before after place true lies more same = (
  ap (λ (s : ℕ). has s place) (more refl) ∙ has-with_same before place,
  λ i other. ap (λ (s : ℕ). has s i) (more refl) ∙ has-with_other before place i (λ is. other (sym is)),
  λ i there. elim (has_from_with before place i (ap (λ (s : ℕ). has s i) (sym (more refl)) ∙ there)) [
    | inl is ↦ omega (arith, is)
    | inr earlier ↦ (let lt = lies i earlier in omega (arith, lt))
  ],
)
cast_more before after place false lies more same = (
  ap (λ (s : ℕ). has s place) (same refl) ∙ false_from_ne_true (has before place) (λ there. (let lt = lies place there in omega (arith, lt))),
  λ i other. ap (λ (s : ℕ). has s i) (same refl),
  λ i there. (let lt = lies i (ap (λ (s : ℕ). has s i) (sym (same refl)) ∙ there) in omega (arith, lt)),
)

-- ---- a crew

module _ (count : ℕ) (film : GroupData) (crew : Crew) (known : IsCrew count film crew) (small : IsSet crew.group.0) where
  -- a cast is a set of places
  pub cast_small : (scene : ℕ) → slice_index crew.casts scene < 2 ^ count
  cast_small scene = lies_wide (slice_index crew.casts scene) (known.lies scene)
    where
      lies_wide : (cast : ℕ) → LiesBelow (size crew.group.0) cast → cast < 2 ^ count
      lies_wide cast lies = lies_small count cast (λ i there. (let lt = lies i there in omega (arith, lt, known.fits)))

  -- who isn't at one of the places is left out by them
  left_out : (places place : ℕ) → place < size crew.group.0 → has places place ≡ false
      → has (minus crew.group.0 (pick crew.group.0 places)) (actor_at crew.group.0 place) ≡ true
  left_out places place lt missing =
      let group : ℕ = crew.group.0 in
      let absent : has (pick group places) (actor_at group place) ≡ false
      = false_from_ne_true (has (pick group places) (actor_at group place)) (λ there. (let found = has_from_pick group places (actor_at group place) there in
      elim (cases_eq found.0 place) [
        | inl is ↦ false≢true (sym missing ∙ subst (λ (k : ℕ). has places k ≡ true) is found.2)
        | inr other ↦ places_apart group found.0 place found.1 lt other found.3
      ])) in
      has-minus group (pick group places) (actor_at group place) ∙ (λ i. actor_there group place lt i && not (absent i))

  -- a cast lies in the places where nobody works in the scene whom they leave out
  pub lies_in : (scene places : ℕ) → has crew.set.0 scene ≡ true
      → (minus (slice_index crew.casts scene) places == 0) ≡ is_without film (minus crew.group.0 (pick crew.group.0 places)) scene
  lies_in scene places there =
      let group : ℕ = crew.group.0 in
      let cast : ℕ = slice_index crew.casts scene in
      let out : ℕ = minus group (pick group places) in
      same_test (minus cast places == 0) (is_without film out scene)
      (λ lies. is_none film out scene (λ i works left. (
      let parts = has_from_minus group (pick group places) i left in
      let found = place_of group i small parts.0 in
      let in_cast : has cast found.0 ≡ true = known.casts scene found.0 there found.1 ∙ subst (λ (k : ℕ). has (slice_index film.casts scene) k ≡ true) (sym found.2) works in
      elim (cases_Bool (has places found.0)) [
        | inl here ↦ false≢true (sym parts.1 ∙ subst (λ (k : ℕ). has (pick group places) k ≡ true) found.2 (has_pick group places found.0 found.1 here))
        | inr missing ↦ empty_has found.0 (ap (λ (s : ℕ). has s found.0) (sym (eqb-true (minus cast places) 0 lies)) ∙ has-minus cast places found.0
            ∙ (λ k. in_cast k && not (missing k)))
      ])))
      (λ none. eq-eqb (minus cast places) 0 (empty_from (minus cast places) (λ place. false_from_ne_true (has (minus cast places) place) (λ left. (
      let parts = has_from_minus cast places place left in
      let lt : place < size group = known.lies scene place parts.0 in
      none_works film out scene (actor_at group place) none (sym (known.casts scene place there lt) ∙ parts.0) (left_out places place lt parts.1))))))

  -- what those at some places get, and 0 at each other place
  module _ (with_some : ℕ) (numbers : List ℕ) (told : (place : ℕ) → slice_index numbers place ≡ cond {A = ℕ} (has with_some place) (slice_index crew.holds place) 0) where
    -- at the places of a set
    sum_of_some : (places : ℕ) → sum_over numbers places ≡ sum_over film.holds (pick crew.group.0 (meet with_some places))
    sum_of_some places =
        sum_over_is numbers places
        ∙ sum_below-ext 64 (λ place. cond {A = ℕ} (has places place) (slice_index numbers place) 0) (λ place. cond {A = ℕ} (has (meet with_some places) place) (slice_index crew.holds place) 0)
        (λ place _. ap (λ (n : ℕ). cond {A = ℕ} (has places place) n 0) (told place) ∙ both (has places place) (has with_some place) (slice_index crew.holds place)
        ∙ ap (λ (b : Bool). cond {A = ℕ} b (slice_index crew.holds place) 0) (sym (has-meet with_some places place)))
        ∙ sym (sum_over_is crew.holds (meet with_some places))
        ∙ sum_by_place crew.group.0 small film.holds crew.holds known.holds known.no_holds (meet with_some places)
      where
        both : (a b : Bool) (n : ℕ) → cond {A = ℕ} a (cond {A = ℕ} b n 0) 0 ≡ cond {A = ℕ} (b && a) n 0
        both true true n = refl
        both true false n = refl
        both false true n = refl
        both false false n = refl

    -- no more than what the whole group gets
    pub some_most : (places : ℕ) → sum_over numbers places ≤ sum_over film.holds crew.group.0
    some_most places = omega (arith, sum_of_some places, pick_most crew.group.0 film.holds (meet with_some places))

    -- the rest of all is what those at the other places get
    pub rest_is : (places rate : ℕ) → places < 2 ^ count → rate + sum_over numbers places ≡ sum_over numbers (full count)
        → rate ≡ sum_over film.holds (pick crew.group.0 (meet with_some (minus (full count) places)))
    rest_is places rate lt is =
        let within : meet (full count) places ≡ places = same_has (meet (full count) places) places (λ i. has-meet (full count) places i
        ∙ kept (has (full count) i) (has places i) (λ there. has_full count i (below_width places count i lt there))) in
        let parts : sum_over numbers (minus (full count) places) + sum_over numbers (meet (full count) places) ≡ sum_over numbers (full count) = sum_over-minus numbers (full count) places in
        let rest : rate ≡ sum_over numbers (minus (full count) places) = omega (arith, is, parts, ap (sum_over numbers) within) in
        rest ∙ sum_of_some (minus (full count) places)
      where
        kept : (a b : Bool) → (b ≡ true → a ≡ true) → (a && b) ≡ b
        kept a true within = ap (λ (c : Bool). c && true) (within refl)
        kept true false within = refl
        kept false false within = refl

  -- those who have left and share a scene with one of some actors
  module _ (set_small : IsSet crew.set.0) (scenes with_some : ℕ) (actors : List ℕ)
      (chosen : (scene : ℕ) → has scenes scene ≡ (has crew.set.0 scene && not (is_without film (actors_of actors) scene)))
      (some : (place : ℕ) → has with_some place ≡ true → (scene : ℕ) × (has scenes scene ≡ true) × (has (slice_index crew.casts scene) place ≡ true))
      (all : (scene place : ℕ) → has scenes scene ≡ true → has (slice_index crew.casts scene) place ≡ true → has with_some place ≡ true) where
    -- are picked by the other places at which someone works in these scenes
    pub mates_picked : (places : ℕ) → pick crew.group.0 (meet with_some (minus (full count) places))
        ≡ meet (minus crew.group.0 (pick crew.group.0 places)) (mates film crew.set.0 (actors_of actors))
    mates_picked places =
        let group : ℕ = crew.group.0 in
        let set : ℕ = crew.set.0 in
        let left : ℕ = meet with_some (minus (full count) places) in
        let out : ℕ = minus group (pick group places) in
        let others : ℕ = mates film set (actors_of actors) in
        same_has (pick group left) (meet out others) (λ i. same_test (has (pick group left) i) (has (meet out others) i)
        (λ there. (
        let found = has_from_pick group left i there in
        let parts = has_from_meet with_some (minus (full count) places) found.0 found.2 in
        let missing = (has_from_minus (full count) places found.0 parts.1).1 in
        let scene = some found.0 parts.0 in
        let both = chosen_parts scene.0 scene.1 in
        let one = some_works film actors scene.0 both.1 in
        let works : has (slice_index film.casts scene.0) (actor_at group found.0) ≡ true = sym (known.casts scene.0 found.0 both.0 found.1) ∙ scene.2 in
        subst (λ (k : ℕ). has (meet out others) k ≡ true) found.3
        (has-meet out others (actor_at group found.0) ∙ and_from (has out (actor_at group found.0)) (has others (actor_at group found.0))
        (left_out places found.0 found.1 missing)
        (has_mates film set actors scene.0 one.0 (actor_at group found.0) set_small both.0 one.1 one.2 works))))
        (λ there. (
        let parts = has_from_meet out others i there in
        let outside = has_from_minus group (pick group places) i parts.0 in
        let found = place_of group i small outside.0 in
        let with_one = mates_has film set actors i parts.1 in
        let scene : ℕ = with_one.0 in
        let works : has (slice_index film.casts scene) (actor_at group found.0) ≡ true = subst (λ (k : ℕ). has (slice_index film.casts scene) k ≡ true) (sym found.2) with_one.2 in
        let not_none : is_without film (actors_of actors) scene ≡ false
        = false_from_ne_true (is_without film (actors_of actors) scene) (λ none. none_works film (actors_of actors) scene with_one.3.0 none with_one.3.2 (has_listed actors with_one.3.0 with_one.3.1)) in
        let here : has scenes scene ≡ true = chosen scene ∙ (λ k. with_one.1 k && not (not_none k)) in
        let member : has with_some found.0 ≡ true = all scene found.0 here (known.casts scene found.0 with_one.1 found.1 ∙ works) in
        let missing : has places found.0 ≡ false = false_from_ne_true (has places found.0) (λ at. false≢true (sym outside.1
        ∙ subst (λ (k : ℕ). has (pick group places) k ≡ true) found.2 (has_pick group places found.0 found.1 at))) in
        subst (λ (k : ℕ). has (pick group left) k ≡ true) found.2 (has_pick group left found.0 found.1
        (has-meet with_some (minus (full count) places) found.0 ∙ and_from (has with_some found.0) (has (minus (full count) places) found.0) member
        (has-minus (full count) places found.0 ∙ (λ k. has_full count found.0 (omega (arith, found.1, known.fits)) k && not (missing k))))))))
      where
        parted : (a b : Bool) → (a && not b) ≡ true → (a ≡ true) × (b ≡ false)
        parted true true is = absurd (false≢true is)
        parted true false is = (refl, refl)
        parted false b is = absurd (false≢true is)

        chosen_parts : (scene : ℕ) → has scenes scene ≡ true → (has crew.set.0 scene ≡ true) × (is_without film (actors_of actors) scene ≡ false)
        chosen_parts scene there = parted (has crew.set.0 scene) (is_without film (actors_of actors) scene) (sym (chosen scene) ∙ there)
