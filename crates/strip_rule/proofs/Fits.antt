-- When a scene rules out another, by actors; and that this is an order.
use Rattle.std.proofs.Common.{◌≡◌, ◌≢◌, ℕ, ◌<◌, ◌⊎◌, Bool, true, false, not, ◌&&◌, ◌||◌, eqb, slice_index, inl, inr, refl, sym, ap, ◌∙◌, subst, arith, ltb}
use Rattle.std.proofs.lemmas.Bool.{and_parts, cases_Bool, eq-eqb, eqb-false, eqb-true, lt-ltb, ltb-true, ne_eqb, not-true, and_from}
use Rattle.strip_mask.specs.Set.{has, union, minus}
use Rattle.strip_mask.proofs.ByMembers.{has-empty, has-minus, has-union, has_from_union, empty_from}
use Rattle.strip_model.specs.Film.{FilmData}
use Rattle.strip_model.specs.Pay.{works}
use Rattle.std.proofs.Math.Bool.{or-true}
use Rattle.strip_film.specs.Shoot.{on_location, ready}
use Rattle.strip_rule.specs.Rule.{is_part, fits_before, rules_out}

part_is : (a b : ℕ) → is_part a b ≡ true → (i : ℕ) → has a i ≡ true → has b i ≡ true
part_is a b part i member = elim (cases_Bool (has b i)) [
  | inl there ↦ there
  | inr out ↦ absurd (let left : has (minus a b) i ≡ true = has-minus a b i ∙ and_from (has a i) (not (has b i)) member (ap not out) in
      let none : has (minus a b) i ≡ false = subst (λ (q : ℕ). has q i ≡ false) (sym (eqb-true (minus a b) 0 part)) (has-empty i) in
      cc)
]

pub is_part_from : (a b : ℕ) → ((i : ℕ) → has a i ≡ true → has b i ≡ true) → is_part a b ≡ true
is_part_from a b within = eq-eqb (minus a b) 0 (empty_from (minus a b) (λ i. has-minus a b i ∙ none_left (has a i) (has b i) (within i)))
  where
    none_left : (x y : Bool) → (x ≡ true → y ≡ true) → (x && not y) ≡ false
    none_left true y within = ap not (within refl)
    none_left false y within = refl

-- whoever is on location works in the first scene, and whoever works in it is on location or works in the second
pub record FitsBefore (film : FilmData) (set first second : ℕ) : Type 0 where
  pub located : (actor : ℕ) → has (on_location film set) actor ≡ true → works film actor first ≡ true
  pub cast : (actor : ℕ) → works film actor first ≡ true → (has (on_location film set) actor ≡ true) ⊎ (works film actor second ≡ true)

module _ (film : FilmData) (set : ℕ) where
  abbrev on : ℕ
  on = on_location film set

  abbrev cast_at : ℕ → ℕ
  cast_at scene = slice_index film.casts scene

  fits_is : (a b : ℕ) → fits_before film set a b ≡ true → FitsBefore film set a b
  fits_is a b fits =
      let parts = and_parts (is_part on (cast_at a)) (is_part (cast_at a) (union on (cast_at b))) fits in record {
        located = part_is on (cast_at a) parts.0;
        cast = λ actor working. has_from_union on (cast_at b) actor (part_is (cast_at a) (union on (cast_at b)) parts.1 actor working);
      }

  is_fits : (a b : ℕ) → FitsBefore film set a b → fits_before film set a b ≡ true
  is_fits a b fits = and_from (is_part on (cast_at a)) (is_part (cast_at a) (union on (cast_at b)))
      (is_part_from on (cast_at a) fits.located)
      (is_part_from (cast_at a) (union on (cast_at b)) (λ actor working. has-union on (cast_at b) actor ∙ elim (fits.cast actor working) [
        | inl waiting ↦ rw waiting refl
        | inr later ↦ rw later (or-true (has on actor))
      ]))

  FitsBefore-chain : (a b c : ℕ) → FitsBefore film set a b → FitsBefore film set b c → FitsBefore film set a c
  FitsBefore-chain a b c first second = record {
    located = first.located;
    cast = λ actor working. elim (first.cast actor working) [
      | inl waiting ↦ inl waiting
      | inr later ↦ second.cast actor later
    ];
  }

-- what it is that a scene rules out another
pub record Ruling (film : FilmData) (set first second : ℕ) : Type 0 where
  pub first_ready : has (ready film set) first ≡ true
  pub second_ready : has (ready film set) second ≡ true
  pub other : first ≢ second
  pub fits : FitsBefore film set first second
  pub lesser : FitsBefore film set second first → first < second

module _ (film : FilmData) (set : ℕ) where
  abbrev fit : ℕ → ℕ → Bool
  fit a b = fits_before film set a b

  -- the test, as its parts make it
  by_tie : (a b : ℕ) (back : Bool) → fit b a ≡ back → (not back || ltb a b) ≡ true → FitsBefore film set b a → a < b
  by_tie a b true is tie fits = ltb-true a b tie
  by_tie a b false is tie fits = absurd (let e : fit b a ≡ true = is_fits film set b a fits in cc)

  tie_by : (a b : ℕ) (back : Bool) → fit b a ≡ back → (FitsBefore film set b a → a < b) → (not back || ltb a b) ≡ true
  tie_by a b true is lesser = lt-ltb a b (lesser (fits_is film set b a is))
  tie_by a b false is lesser = refl

  pub ruling_is : (a b : ℕ) → rules_out film set a b ≡ true → Ruling film set a b
  ruling_is a b rules =
      let sides = and_parts (has (ready film set) a && has (ready film set) b) (not (eqb a b) && (fit a b && (not (fit b a) || ltb a b))) rules in
      let both = and_parts (has (ready film set) a) (has (ready film set) b) sides.0 in
      let more = and_parts (not (eqb a b)) (fit a b && (not (fit b a) || ltb a b)) sides.1 in
      let last = and_parts (fit a b) (not (fit b a) || ltb a b) more.1 in record {
        first_ready = both.0;
        second_ready = both.1;
        other = eqb-false a b (not-true (eqb a b) more.0);
        fits = fits_is film set a b last.0;
        lesser = by_tie a b (fit b a) refl last.1;
      }

  is_ruling : (a b : ℕ) → Ruling film set a b → rules_out film set a b ≡ true
  is_ruling a b ruling =
      and_from (has (ready film set) a && has (ready film set) b) (not (eqb a b) && (fit a b && (not (fit b a) || ltb a b)))
      (and_from (has (ready film set) a) (has (ready film set) b) ruling.first_ready ruling.second_ready)
      (and_from (not (eqb a b)) (fit a b && (not (fit b a) || ltb a b)) (ap not (ne_eqb a b ruling.other))
      (and_from (fit a b) (not (fit b a) || ltb a b) (is_fits film set a b ruling.fits) (tie_by a b (fit b a) refl ruling.lesser)))

  never_both : (a b : ℕ) → rules_out film set a b ≡ true → rules_out film set b a ≡ false
  never_both a b rules = elim (cases_Bool (rules_out film set b a)) [
    | inl back ↦ absurd (let one = ruling_is a b rules in let two = ruling_is b a back in
        let less : a < b = one.lesser two.fits in let more : b < a = two.lesser one.fits in omega (arith, less, more))
    | inr none ↦ none
  ]

  -- no scene rules itself out
  pub never_itself : (a : ℕ) → rules_out film set a a ≡ false
  never_itself a = elim (cases_Bool (rules_out film set a a)) [
    | inl rules ↦ absurd ((ruling_is a a rules).other refl)
    | inr none ↦ none
  ]

  pub rules_out-chain : (a b c : ℕ) → rules_out film set a b ≡ true → rules_out film set b c ≡ true → rules_out film set a c ≡ true
  rules_out-chain a b c first second =
      let ab = ruling_is a b first in
      let bc = ruling_is b c second in
      let less : FitsBefore film set c a → a < c = λ ca.
      (let low : a < b = ab.lesser (FitsBefore-chain film set b c a bc.fits ca) in
      let high : b < c = bc.lesser (FitsBefore-chain film set c a b ca ab.fits) in
      omega (arith, low, high)) in
      is_ruling a c (record {
        first_ready = ab.first_ready;
        second_ready = bc.second_ready;
        other = λ same. (let e : rules_out film set b a ≡ true = subst (λ (i : ℕ). rules_out film set b i ≡ true) (sym same) second in
            let f : rules_out film set b a ≡ false = never_both a b first in cc);
        fits = FitsBefore-chain film set a b c ab.fits bc.fits;
        lesser = less;
      })
