-- The tables of a film, an entry at a time, and sums over them.
use Rattle.std.proofs.Common.{◌≡◌, ℕ, ◌+◌, ◌*◌, ◌<◌, ◌≤◌, Bool, true, false, cond, not, ◌&&◌, List, [], ◌∷◌, ◌++◌, length, sum_by, slice_index, inl, inr, refl, sym, ap, ◌∙◌, subst, arith}
use Rattle.std.proofs.lemmas.Bool.{cases_lt, false_from_ne_true}
use Rattle.std.proofs.lemmas.List.{get_or_append_left, get_or_past}
use Rattle.std.proofs.Math.Seq.{get_or-append_seam}
use Rattle.strip_mask.specs.Set.{has, meet, minus, with, members, sum_over}
use Rattle.strip_mask.proofs.ByMembers.{has-empty, has-meet, has-minus, has-with_same, has-with_other}
use Rattle.strip_mask.proofs.Below.{is_set_below}
use Rattle.strip_mask.proofs.Members.{members_is}
use Rattle.strip_mask.proofs.Sums.{sum_below-ext}
use Rattle.strip_mask.proofs.Totals.{sum_over_is, sum_kept, sum_filter}
use Rattle.strip_model.specs.Film.{FilmData}
use Rattle.strip_model.specs.Pay.{works}
use Rattle.strip_film.specs.Film.{IsFilm}
use Rattle.strip_film.specs.Bounds.{plain_bound}
use Rattle.strip_film.proofs.Casts.{cast_lies}
use Rattle.strip_bound.specs.Bounds.{days_with_without}
use Rattle.strip_bound.specs.Tables.{ArePlays, AreWeights, weight}

-- what holds of each entry holds with one more
pub entry_more : (P : ℕ → ℕ → Type 0) (xs : List ℕ) (x n : ℕ) → length xs ≡ n → P n x
    → ((i : ℕ) → i < n → P i (slice_index xs i)) → (i : ℕ) → i < n + 1 → P i (slice_index (xs ++ x ∷ []) i)
entry_more P xs x n count here each i lt = elim (cases_lt i n) [
  | inl before ↦ subst (P i) (sym (get_or_append_left xs (x ∷ []) 0 i (omega (arith, count, before)))) (each i before)
  | inr past ↦ (
      let at : n ≡ i = omega (arith, past, lt) in
      let seam : x ≡ slice_index (xs ++ x ∷ []) n = sym (ap (slice_index (xs ++ x ∷ [])) (sym count) ∙ get_or-append_seam xs x [] 0) in
      subst (λ (k : ℕ). P k (slice_index (xs ++ x ∷ []) k)) at (subst (P n) seam here))
]

-- ---- weights

no_times : (n : ℕ) → 0 * n ≡ 0
no_times n = grind arith

pub weights_are : (film : FilmData) (weights : List ℕ) → length weights ≡ length film.casts → length film.days ≡ length film.casts
    → ((scene : ℕ) → scene < length film.casts → slice_index weights scene ≡ weight film scene) → AreWeights film weights
weights_are film weights count days each = record {
  count = count;
  each = λ scene. elim (cases_lt scene (length film.casts)) [
    | inl known ↦ each scene known
    | inr past ↦ (
        let none : slice_index weights scene ≡ 0 = get_or_past weights scene 0 (omega (arith, count, past)) in
        let no_days : slice_index film.days scene ≡ 0 = get_or_past film.days scene 0 (omega (arith, days, past)) in
        none ∙ sym (ap (λ (d : ℕ). d * sum_over film.rates (slice_index film.casts scene)) no_days ∙ no_times (sum_over film.rates (slice_index film.casts scene))))
  ];
}

-- the sum of the weights is the plain bound
pub sum_weights : (film : FilmData) (weights : List ℕ) (set : ℕ) → AreWeights film weights → sum_over weights set ≡ plain_bound film set
unfolding sum_over
sum_weights film weights set are = λ i. sum_by (λ scene. are.each scene i) (members set)

-- ---- the scenes with an actor

-- the set has those of the first n scenes whose cast has the actor
pub record Tells (casts : List ℕ) (actor set n : ℕ) : Type 0 where
  pub told : (scene : ℕ) → scene < n → has set scene ≡ has (slice_index casts scene) actor
  pub past : (scene : ℕ) → n ≤ scene → has set scene ≡ false

pub tells_none : (casts : List ℕ) (actor : ℕ) → Tells casts actor 0 0
tells_none casts actor = record { told = λ scene lt. absurd (omega (arith, lt)); past = λ scene _. has-empty scene }

pub tells_with : (casts : List ℕ) (actor set n : ℕ) → Tells casts actor set n → has (slice_index casts n) actor ≡ true
    → Tells casts actor (with set n) (n + 1)
tells_with casts actor set n tells there = record {
  told = λ scene lt. elim (cases_lt scene n) [
    | inl before ↦ has-with_other set n scene (λ same. omega (arith, same, before)) ∙ tells.told scene before
    | inr from ↦ (let at : n ≡ scene = omega (arith, from, lt) in
        subst (λ (k : ℕ). has (with set n) k ≡ has (slice_index casts k) actor) at (has-with_same set n ∙ sym there))
  ];
  past = λ scene le. has-with_other set n scene (λ same. omega (arith, same, le)) ∙ tells.past scene (omega (arith, le));
}

pub tells_past : (casts : List ℕ) (actor set n : ℕ) → Tells casts actor set n → has (slice_index casts n) actor ≡ false
    → Tells casts actor set (n + 1)
tells_past casts actor set n tells absent = record {
  told = λ scene lt. elim (cases_lt scene n) [
    | inl before ↦ tells.told scene before
    | inr from ↦ (let at : n ≡ scene = omega (arith, from, lt) in
        subst (λ (k : ℕ). has set k ≡ has (slice_index casts k) actor) at (tells.past n (omega arith) ∙ sym absent))
  ];
  past = λ scene le. tells.past scene (omega (arith, le));
}

pub tells_all : (casts : List ℕ) (actor set : ℕ) → Tells casts actor set (length casts) → (scene : ℕ) → has set scene ≡ has (slice_index casts scene) actor
tells_all casts actor set tells scene = elim (cases_lt scene (length casts)) [
  | inl known ↦ tells.told scene known
  | inr past ↦ (let none : slice_index casts scene ≡ 0 = get_or_past casts scene 0 past in
      tells.past scene past ∙ sym (ap (λ (cast : ℕ). has cast actor) none ∙ has-empty actor))
]

pub plays_are : (film : FilmData) (plays : List ℕ) → IsFilm film → length plays ≡ length film.rates
    → ((actor : ℕ) → actor < length film.rates → (scene : ℕ) → has (slice_index plays actor) scene ≡ works film actor scene) → ArePlays film plays
plays_are film plays is count each =
    let all : (actor scene : ℕ) → has (slice_index plays actor) scene ≡ works film actor scene = (λ actor scene. elim (cases_lt actor (length film.rates)) [
      | inl known ↦ each actor known scene
      | inr past ↦ (
          let none : slice_index plays actor ≡ 0 = get_or_past plays actor 0 (omega (arith, count, past)) in
          let idle : works film actor scene ≡ false
          = false_from_ne_true (works film actor scene) (λ there. let lt : actor < length film.rates = cast_lies film scene is actor there in omega (arith, lt, past)) in
          ap (λ (set : ℕ). has set scene) none ∙ has-empty scene ∙ sym idle)
    ]) in
    record {
      count = count;
      sets = λ actor. is_set_below (length film.casts) (slice_index plays actor) is.scene_count.1 (λ scene there. known_scene actor scene (sym (all actor scene) ∙ there));
      each = all;
    }
  where
    known_scene : (actor scene : ℕ) → works film actor scene ≡ true → scene < length film.casts
    known_scene actor scene there = elim (cases_lt scene (length film.casts)) [
      | inl known ↦ known
      | inr past ↦ absurd (
          let none : slice_index film.casts scene ≡ 0 = get_or_past film.casts scene 0 past in
          let f : works film actor scene ≡ false = ap (λ (cast : ℕ). has cast actor) none ∙ has-empty actor in cc)
    ]

-- the days of the scenes of the set with the first actor and without the second
pub apart_days : (film : FilmData) (plays : List ℕ) (set a b : ℕ) → ArePlays film plays
    → sum_over film.days (minus (meet (slice_index plays a) set) (meet (slice_index plays b) set)) ≡ days_with_without film set a b
apart_days film plays set a b are =
    let of_a : ℕ = meet (slice_index plays a) set in
    let of_b : ℕ = meet (slice_index plays b) set in
    let days : ℕ → ℕ = slice_index film.days in
    let apart : ℕ → Bool = λ scene. works film a scene && not (works film b scene) in
    sum_over_is film.days (minus of_a of_b)
    ∙ sum_below-ext 64 (λ s. cond (has (minus of_a of_b) s) (days s) 0) (λ s. cond (has set s) (cond (apart s) (days s) 0) 0) (λ s _.
    ap (λ t. cond t (days s) 0) (has-minus of_a of_b s ∙ both s)
    ∙ cases (works film a s) (works film b s) (has set s) (days s))
    ∙ sym (sum_filter days apart (members set)
    ∙ ap (sum_by (λ s. cond (apart s) (days s) 0)) (members_is set)
    ∙ sum_kept (λ s. cond (apart s) (days s) 0) (has set) 64)
  where
    seen : (actor s : ℕ) → has (meet (slice_index plays actor) set) s ≡ (works film actor s && has set s)
    seen actor s = has-meet (slice_index plays actor) set s ∙ ap (λ t. t && has set s) (are.each actor s)

    both : (s : ℕ) → (has (meet (slice_index plays a) set) s && not (has (meet (slice_index plays b) set) s))
        ≡ ((works film a s && has set s) && not (works film b s && has set s))
    both s = λ i. seen a s i && not (seen b s i)

    cases : (x y h : Bool) (n : ℕ) → cond ((x && h) && not (y && h)) n 0 ≡ cond h (cond (x && not y) n 0) 0
    cases true true true n = refl
    cases true true false n = refl
    cases true false true n = refl
    cases true false false n = refl
    cases false true true n = refl
    cases false true false n = refl
    cases false false true n = refl
    cases false false false n = refl
