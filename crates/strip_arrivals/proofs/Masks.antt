-- The scenes by who of the newcomers works in them, as masks.
use Rattle.std.proofs.Common.{◌≡◌, ℕ, ◌⊎◌, Bool, true, false, not, ◌&&◌, ◌||◌, eqb, List, [], ◌∷◌, slice_index, refl, sym, ap, ◌∙◌, inl, inr}
use Rattle.std.proofs.lemmas.Bool.{and_parts, cases_eq, eq-eqb, eqb-true, false≢true, and_from}
use Rattle.strip_mask.specs.Set.{IsSet, has, meet, minus, union, with, without}
use Rattle.strip_mask.proofs.ByMembers.{has-meet, has-minus, has-union, has-with, has-with_other, has-with_same, has-without_other, has-without_same, has_from_with, same_has, empty_has, has_from_meet}
use Rattle.strip_mask.proofs.Totals.{sum_over-ext}
use Rattle.strip_group.specs.Group.{GroupData}
use Rattle.strip_arrivals.specs.Arrivals.{actors_of, is_without}
use Rattle.strip_arrivals.specs.Company.{AreCounted, ArePair, just, open_with}
use Rattle.strip_mask.proofs.Agree.{same_test, or_turned}
use Rattle.strip_arrivals.proofs.Casts.{is_none, none_works, without_one}
use Rattle.strip_arrivals.proofs.Chosen.{has_where}
use Rattle.std.proofs.Math.Bool.{and_comm}

-- a set of one or of two
pub one_of : (actor i : ℕ) → has (with 0 actor) i ≡ true → i ≡ actor
one_of actor i there = elim (has_from_with 0 actor i there) [
  | inl is ↦ sym is
  | inr none ↦ absurd (empty_has i none)
]

abbrev pub two : ℕ → ℕ → ℕ
two one other = with (with 0 one) other

pub has_one : (one other : ℕ) → has (two one other) one ≡ true
has_one one other = elim (cases_eq other one) [
  | inl is ↦ ap (λ (i : ℕ). has (two one other) i) (sym is) ∙ has-with_same (with 0 one) other
  | inr apart ↦ has-with_other (with 0 one) other one apart ∙ has-with_same 0 one
]

has_other : (one other : ℕ) → has (two one other) other ≡ true
has_other one other = has-with_same (with 0 one) other

pub one_or_other : (one other i : ℕ) → has (two one other) i ≡ true → (i ≡ one) ⊎ (i ≡ other)
one_or_other one other i there = elim (has_from_with (with 0 one) other i there) [
  | inl is ↦ inr (sym is)
  | inr first ↦ inl (one_of one i first)
]

pub two_turned : (one other : ℕ) → two one other ≡ two other one
two_turned one other = same_has (two one other) (two other one) (λ i.
    has-with (with 0 one) other i ∙ ap (λ b. eqb other i || b) (has-with 0 one i) ∙ or_turned (eqb other i) (eqb one i) (has 0 i)
    ∙ sym (has-with (with 0 other) one i ∙ ap (λ b. eqb one i || b) (has-with 0 other i)))

-- a scene of both is one of the set
pub in_set : (scenes plays set scene : ℕ) → scenes ≡ meet plays set → has scenes scene ≡ true → has set scene ≡ true
in_set scenes plays set scene is there = (has_from_meet plays set scene (ap (λ (s : ℕ). has s scene) (sym is) ∙ there)).1

-- the pair is all newcomers
pub pair_is : (newcomers one other : ℕ) → ArePair newcomers one other → two one other ≡ newcomers
pair_is newcomers one other pair = same_has (two one other) newcomers (λ i. same_test (has (two one other) i) (has newcomers i)
    (λ there. elim (one_or_other one other i there) [
      | inl is ↦ ap (has newcomers) is ∙ pair.one_comes
      | inr is ↦ ap (has newcomers) is ∙ pair.other_comes
    ])
    (λ there. elim (pair.only i there) [
      | inl is ↦ ap (has (two one other)) is ∙ has_one one other
      | inr is ↦ ap (has (two one other)) is ∙ has_other one other
    ]))

pub pair_turned : (newcomers one other : ℕ) → ArePair newcomers one other → ArePair newcomers other one
pair_turned newcomers one other pair = record {
  one_comes = pair.other_comes;
  other_comes = pair.one_comes;
  apart = λ same. pair.apart (sym same);
  only = λ actor there. elim (pair.only actor there) [
    | inl is ↦ inr is
    | inr is ↦ inl is
  ];
}

module _ (film : GroupData) (set newcomers : ℕ) (small : IsSet set) where
  abbrev cast : ℕ → ℕ
  cast scene = slice_index film.casts scene

  -- a mask that has the scenes of the set that pass a test on the newcomers in them
  of_kind : (scenes these : ℕ) → ((scene : ℕ) → has scenes scene ≡ (has set scene && eqb (meet (cast scene) newcomers) these)) → scenes ≡ just film newcomers these set
  of_kind scenes these told = same_has scenes (just film newcomers these set) (λ scene.
      told scene ∙ sym (has_where (λ s. eqb (meet (cast s) newcomers) these) set scene small))

  -- no newcomer works there
  pub none_is : (scenes with_them : ℕ) → ((scene : ℕ) → has with_them scene ≡ not (is_without film newcomers scene)) → scenes ≡ minus set with_them
      → scenes ≡ just film newcomers 0 set
  none_is scenes with_them told is = of_kind scenes 0 (λ scene. ap (λ (s : ℕ). has s scene) is ∙ has-minus set with_them scene
      ∙ ap (λ b. has set scene && not b) (told scene) ∙ ap (λ b. has set scene && b) (twice (is_without film newcomers scene)))
    where
      twice : (b : Bool) → not (not b) ≡ b
      twice true = refl
      twice false = refl

  -- of the newcomers he alone does
  alone_in : (actor scene : ℕ) → has newcomers actor ≡ true
      → (has (cast scene) actor && is_without film (without newcomers actor) scene) ≡ eqb (meet (cast scene) newcomers) (with 0 actor)
  alone_in actor scene comes = same_test (has (cast scene) actor && is_without film (without newcomers actor) scene) (eqb (meet (cast scene) newcomers) (with 0 actor))
      (λ there.
      let parts = and_parts (has (cast scene) actor) (is_without film (without newcomers actor) scene) there in
      eq-eqb (meet (cast scene) newcomers) (with 0 actor) (same_has (meet (cast scene) newcomers) (with 0 actor) (λ i. same_test (has (meet (cast scene) newcomers) i) (has (with 0 actor) i)
      (λ works. let both = and_parts (has (cast scene) i) (has newcomers i) (sym (has-meet (cast scene) newcomers i) ∙ works) in
      elim (cases_eq actor i) [
        | inl is ↦ ap (has (with 0 actor)) (sym is) ∙ has-with_same 0 actor
        | inr other ↦ absurd (none_works film (without newcomers actor) scene i parts.1 both.0 (has-without_other newcomers actor i other ∙ both.1))
      ])
      (λ is. ap (has (meet (cast scene) newcomers)) (one_of actor i is) ∙ has-meet (cast scene) newcomers actor
      ∙ and_from (has (cast scene) actor) (has newcomers actor) parts.0 comes))))
      (λ is.
      let same : meet (cast scene) newcomers ≡ with 0 actor = eqb-true (meet (cast scene) newcomers) (with 0 actor) is in
      and_from (has (cast scene) actor) (is_without film (without newcomers actor) scene)
      (and_parts (has (cast scene) actor) (has newcomers actor) (sym (has-meet (cast scene) newcomers actor) ∙ ap (λ (s : ℕ). has s actor) same ∙ has-with_same 0 actor)).0
      (is_none film (without newcomers actor) scene (λ i works there.
      let member : has newcomers i ≡ true = was_there actor i there in
      let is_he : i ≡ actor = one_of actor i (ap (λ (s : ℕ). has s i) (sym same) ∙ has-meet (cast scene) newcomers i ∙ and_from (has (cast scene) i) (has newcomers i) works member) in
      false≢true (sym (has-without_same newcomers actor) ∙ ap (has (without newcomers actor)) (sym is_he) ∙ there))))
    where
      was_there : (actor i : ℕ) → has (without newcomers actor) i ≡ true → has newcomers i ≡ true
      was_there actor i there = elim (cases_eq actor i) [
        | inl is ↦ absurd (false≢true (sym (has-without_same newcomers actor) ∙ ap (has (without newcomers actor)) is ∙ there))
        | inr other ↦ sym (has-without_other newcomers actor i other) ∙ there
      ]

  pub alone_is : (actor plays scenes others alone : ℕ) → has newcomers actor ≡ true → ((scene : ℕ) → has plays scene ≡ has (cast scene) actor) → scenes ≡ meet plays set
      → ((scene : ℕ) → has others scene ≡ not (is_without film (without newcomers actor) scene)) → alone ≡ minus scenes others
      → alone ≡ just film newcomers (with 0 actor) set
  alone_is actor plays scenes others alone comes works is told is_alone = of_kind alone (with 0 actor) (λ scene.
      ap (λ (s : ℕ). has s scene) is_alone ∙ has-minus scenes others scene ∙ (λ i. has (is i) scene && not (told scene i)) ∙ ap (λ b. b && not (not (is_without film (without newcomers actor) scene)))
      (has-meet plays set scene ∙ ap (λ b. b && has set scene) (works scene))
      ∙ regroup (has (cast scene) actor) (has set scene) (is_without film (without newcomers actor) scene)
      ∙ ap (λ b. has set scene && b) (alone_in actor scene comes))
    where
      regroup : (w s o : Bool) → ((w && s) && not (not o)) ≡ (s && (w && o))
      regroup true true true = refl
      regroup true true false = refl
      regroup true false o = refl
      regroup false true o = refl
      regroup false false o = refl

  module _ (one other : ℕ) (pair : ArePair newcomers one other) where
    -- both do
    both_in : (scene : ℕ) → (has (cast scene) one && has (cast scene) other) ≡ eqb (meet (cast scene) newcomers) (two one other)
    both_in scene = same_test (has (cast scene) one && has (cast scene) other) (eqb (meet (cast scene) newcomers) (two one other))
        (λ there.
        let parts = and_parts (has (cast scene) one) (has (cast scene) other) there in
        eq-eqb (meet (cast scene) newcomers) (two one other) (same_has (meet (cast scene) newcomers) (two one other) (λ i. same_test (has (meet (cast scene) newcomers) i) (has (two one other) i)
        (λ works. ap (λ (s : ℕ). has s i) (pair_is newcomers one other pair) ∙ (and_parts (has (cast scene) i) (has newcomers i) (sym (has-meet (cast scene) newcomers i) ∙ works)).1)
        (λ is. has-meet (cast scene) newcomers i ∙ and_from (has (cast scene) i) (has newcomers i) (elim (one_or_other one other i is) [
          | inl same ↦ ap (has (cast scene)) same ∙ parts.0
          | inr same ↦ ap (has (cast scene)) same ∙ parts.1
        ]) (ap (λ (s : ℕ). has s i) (sym (pair_is newcomers one other pair)) ∙ is)))))
        (λ is.
        let same : meet (cast scene) newcomers ≡ two one other = eqb-true (meet (cast scene) newcomers) (two one other) is in
        let works : (i : ℕ) → has (two one other) i ≡ true → has (cast scene) i ≡ true
        = λ i there. (and_parts (has (cast scene) i) (has newcomers i) (sym (has-meet (cast scene) newcomers i) ∙ ap (λ (s : ℕ). has s i) same ∙ there)).0 in
        and_from (has (cast scene) one) (has (cast scene) other) (works one (has_one one other)) (works other (has_other one other)))

    pub both_is : (with_one with_other scenes : ℕ) → ((scene : ℕ) → has with_one scene ≡ has (cast scene) one) → ((scene : ℕ) → has with_other scene ≡ has (cast scene) other)
        → scenes ≡ meet (meet with_one with_other) set → scenes ≡ just film newcomers (two one other) set
    both_is with_one with_other scenes works works_too is = of_kind scenes (two one other) (λ scene.
        ap (λ (s : ℕ). has s scene) is ∙ has-meet (meet with_one with_other) set scene ∙ ap (λ b. b && has set scene) (has-meet with_one with_other scene)
        ∙ (λ i. (works scene i && works_too scene i) && has set scene) ∙ and_comm (has (cast scene) one && has (cast scene) other) (has set scene)
        ∙ ap (λ b. has set scene && b) (both_in scene))

  -- ---- who shares a scene

  -- the scenes of the set with one
  pub with_one_is : (actor plays scenes : ℕ) → ((scene : ℕ) → has plays scene ≡ has (cast scene) actor) → scenes ≡ meet plays set
      → (scene : ℕ) → has scenes scene ≡ (has set scene && not (is_without film (actors_of (actor ∷ [])) scene))
  with_one_is actor plays scenes works is scene = ap (λ (s : ℕ). has s scene) is ∙ has-meet plays set scene ∙ ap (λ b. b && has set scene) (works scene)
      ∙ regroup (has (cast scene) actor) (has set scene)
      ∙ ap (λ b. has set scene && not b) (sym (without_one film 0 actor scene ∙ ap (λ b. b && not (has (cast scene) actor)) (is_none film 0 scene (λ i _ none. empty_has i none))))
    where
      regroup : (w s : Bool) → (w && s) ≡ (s && not (true && not w))
      regroup true true = refl
      regroup true false = refl
      regroup false true = refl
      regroup false false = refl

  -- and with one of two
  pub with_either_is : (one other with_one with_other scenes : ℕ) → ((scene : ℕ) → has with_one scene ≡ has (cast scene) one)
      → ((scene : ℕ) → has with_other scene ≡ has (cast scene) other) → scenes ≡ meet (union with_one with_other) set
      → (scene : ℕ) → has scenes scene ≡ (has set scene && not (is_without film (actors_of (one ∷ other ∷ [])) scene))
  with_either_is one other with_one with_other scenes works works_too is scene =
      ap (λ (s : ℕ). has s scene) is ∙ has-meet (union with_one with_other) set scene ∙ ap (λ b. b && has set scene) (has-union with_one with_other scene)
      ∙ (λ i. (works scene i || works_too scene i) && has set scene) ∙ regroup (has (cast scene) one) (has (cast scene) other) (has set scene)
      ∙ ap (λ b. has set scene && not b) (sym (without_one film (with 0 other) one scene ∙ ap (λ b. b && not (has (cast scene) one))
      (without_one film 0 other scene ∙ ap (λ b. b && not (has (cast scene) other)) (is_none film 0 scene (λ i _ none. empty_has i none)))))
    where
      regroup : (a b s : Bool) → ((a || b) && s) ≡ (s && not ((true && not b) && not a))
      regroup true true true = refl
      regroup true true false = refl
      regroup true false true = refl
      regroup true false false = refl
      regroup false true true = refl
      regroup false true false = refl
      regroup false false true = refl
      regroup false false false = refl

-- equal numbers are counted alike
pub counted_alike : (film : GroupData) (group count : ℕ) (numbers same : List ℕ) (scenes : ℕ) (sums : ℕ → ℕ) → ((scene : ℕ) → slice_index numbers scene ≡ slice_index same scene)
    → AreCounted film group count numbers scenes sums → AreCounted film group count same scenes sums
counted_alike film group count numbers same scenes sums alike counted places lt = counted places lt ∙ sum_over-ext numbers same (open_with film group places scenes) (λ scene _. alike scene)
