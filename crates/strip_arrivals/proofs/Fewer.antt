-- A scene costs no more where fewer newcomers are here, and its price doesn't rise as others come, leave and go.
use Rattle.std.proofs.Common.{◌≡◌, ℕ, suc, ◌+◌, ◌<◌, ◌≤◌, ◌⊎◌, Bool, true, false, not, ◌&&◌, ◌||◌, cond, eqb, List, [], ◌∷◌, ◌++◌, Contains, filter, length, take, drop, slice_index, refl, sym, ap, ◌∙◌, subst, inl, inr, arith, append_assoc, length-append}
use Rattle.std.proofs.Math.Seq.{take-append_seam, drop-append_seam, drop-length}
use Rattle.std.proofs.lemmas.List.{take-append-drop}
use Rattle.std.proofs.lemmas.List.Elements.{Contains-append_cases, filter-append}
use Rattle.std.proofs.lemmas.Bool.{false≢true, or_left, false_from_ne_true, not_from_false, not-true, and_from}
use Rattle.std.proofs.lemmas.Bool.Decides.{eqb_tells}
use Rattle.strip_mask.specs.Set.{has, meet, members, minus, numbers_below, sum_over, union, with}
use Rattle.strip_mask.specs.Sums.{sum_below}
use Rattle.strip_mask.proofs.ByMembers.{has-meet, has-minus, has-union, has-with, has_from_meet, has_from_minus, empty_has}
use Rattle.strip_mask.proofs.Sums.{sum_below-add, sum_below_mono}
use Rattle.strip_mask.proofs.Totals.{sum_over_is, sum_over_mono}
use Rattle.strip_mask.specs.Least.{least_over}
use Rattle.strip_group.specs.Group.{GroupData}
use Rattle.strip_arrivals.specs.Arrivals.{StateData, actors_of, after, can_have_come, comes, is_open, is_without, leaves, mates, paid_where, price}
use Rattle.strip_mask.proofs.Lists.{contains_cases, contains_none}
use Rattle.strip_mask.proofs.Members.{contains_number}
use Rattle.strip_mask.proofs.Least.{least_over_le, least_over_attained}
use Rattle.strip_arrivals.proofs.Lists.{contains_filter, contains_from_filter}
use Rattle.strip_arrivals.proofs.Casts.{cast_has, has_cast, has_listed, is_none, listed_filter, listed_has, none_works, some_works}

-- ---- sums over two sets

no_more_of_two : (a b c d : Bool) (n : ℕ) → cond {A = ℕ} a 1 0 + cond {A = ℕ} b 1 0 ≤ cond {A = ℕ} c 1 0 + cond {A = ℕ} d 1 0
    → cond {A = ℕ} a n 0 + cond {A = ℕ} b n 0 ≤ cond {A = ℕ} c n 0 + cond {A = ℕ} d n 0
no_more_of_two true true true true n le = omega arith
no_more_of_two true true true false n le = absurd (omega (arith, le))
no_more_of_two true true false d n le = absurd (one_at_most d le)
  where
    one_at_most : (d : Bool) → 1 + 1 ≤ 0 + cond {A = ℕ} d 1 0 → ⊥
    one_at_most true le = omega (arith, le)
    one_at_most false le = omega (arith, le)
no_more_of_two true false true d n le = omega arith
no_more_of_two true false false true n le = omega arith
no_more_of_two true false false false n le = absurd (omega (arith, le))
no_more_of_two false true true d n le = omega arith
no_more_of_two false true false true n le = omega arith
no_more_of_two false true false false n le = absurd (omega (arith, le))
no_more_of_two false false c d n le = omega arith

-- each number is in no more of the first two sets than of the last two
two_sums : (values : List ℕ) (a b c d : ℕ)
    → ((i : ℕ) → cond {A = ℕ} (has a i) 1 0 + cond {A = ℕ} (has b i) 1 0 ≤ cond {A = ℕ} (has c i) 1 0 + cond {A = ℕ} (has d i) 1 0)
    → sum_over values a + sum_over values b ≤ sum_over values c + sum_over values d
two_sums values a b c d each =
    let part : ℕ → ℕ → ℕ = λ set i. cond {A = ℕ} (has set i) (slice_index values i) 0 in
    let within : sum_below 64 (λ i. part a i + part b i) ≤ sum_below 64 (λ i. part c i + part d i)
    = sum_below_mono 64 (λ i. part a i + part b i) (λ i. part c i + part d i)
    (λ i _. no_more_of_two (has a i) (has b i) (has c i) (has d i) (slice_index values i) (each i)) in
    omega (
      arith,
      within,
      sum_below-add 64 (part a) (part b),
      sum_below-add 64 (part c) (part d),
      sum_over_is values a,
      sum_over_is values b,
      sum_over_is values c,
      sum_over_is values d,
    )

module _ (film : GroupData) (set : ℕ) where
  -- ---- who shares a scene with one of a list

  pub record SharesScene (actors : List ℕ) (actor : ℕ) : Type 0 where
    pub scene : ℕ
    pub of_set : Contains (members set) scene
    pub works : has (slice_index film.casts scene) actor ≡ true
    pub one : ℕ
    pub listed : Contains actors one
    pub one_works : has (slice_index film.casts scene) one ≡ true

  pub mates_share : (actors : List ℕ) (actor : ℕ) → has (mates film set (actors_of actors)) actor ≡ true → SharesScene actors actor
  mates_share actors actor there =
      let found = cast_has film (filter (λ s. not (is_without film (actors_of actors) s)) (members set)) actor there in
      let parts = contains_from_filter (λ s. not (is_without film (actors_of actors) s)) (members set) found.0 found.1 in
      let some = some_works film actors found.0 (not-true (is_without film (actors_of actors) found.0) parts.1) in record {
        scene = found.0;
        of_set = parts.0;
        works = found.2;
        one = some.0;
        listed = some.1;
        one_works = some.2;
      }

  pub share_mates : (actors : List ℕ) (actor scene one : ℕ) → Contains (members set) scene → has (slice_index film.casts scene) actor ≡ true
      → Contains actors one → has (slice_index film.casts scene) one ≡ true → has (mates film set (actors_of actors)) actor ≡ true
  share_mates actors actor scene one of_set works listed one_works =
      let some : is_without film (actors_of actors) scene ≡ false
      = false_from_ne_true (is_without film (actors_of actors) scene) (λ none.
      none_works film (actors_of actors) scene one none one_works (has_listed actors one listed)) in
      has_cast film (filter (λ s. not (is_without film (actors_of actors) s)) (members set)) scene actor
      (contains_filter (λ s. not (is_without film (actors_of actors) s)) (members set) scene of_set (ap not some)) works

  -- of fewer actors
  mates_of_fewer : (p : ℕ → Bool) (actors : List ℕ) (actor : ℕ) → has (mates film set (actors_of (filter p actors))) actor ≡ true
      → has (mates film set (actors_of actors)) actor ≡ true
  mates_of_fewer p actors actor there =
      let found = mates_share (filter p actors) actor there in
      share_mates actors actor found.scene found.one found.of_set found.works (contains_from_filter p actors found.one found.listed).0 found.one_works

  -- ---- who is still to come

  -- the scenes of the set in which someone works who is still to come are open
  abbrev pub AreAwaited : StateData → Type 0
  AreAwaited state = (scene actor : ℕ) → Contains (members set) scene → has (slice_index film.casts scene) actor ≡ true → has state.coming actor ≡ true
      → is_open film state scene ≡ true

  -- ---- the price, by who came early and who came later

  module _ (group : ℕ) where
    -- those of the group who are still here, but for those who work in the scene
    abbrev staying : ℕ → ℕ → ℕ
    staying left scene = minus (minus group left) (slice_index film.casts scene)

    -- those who came early, but for those who work in it
    abbrev came : List ℕ → ℕ → ℕ
    came early scene = minus (actors_of early) (slice_index film.casts scene)

    -- those of the group who have left, but had to wait for one who came later
    abbrev held : ℕ → List ℕ → ℕ
    held left later = meet left (mates film set (actors_of later))

    abbrev paid_by : ℕ → List ℕ → List ℕ → ℕ → ℕ
    paid_by left early later scene = sum_over film.holds (staying left scene) + (sum_over film.holds (came early scene) + sum_over film.holds (held left later))

    -- how many can have come
    abbrev numbers : StateData → ℕ → List ℕ
    numbers state scene = filter (can_have_come film state scene) (numbers_below (suc (length state.here)))

    -- those who are here, parted so that the price is reached
    record IsCheapest (state : StateData) (scene : ℕ) : Type 0 where
      early : List ℕ
      later : List ℕ
      are_here : state.here ≡ early ++ later
      not_yet : is_without film (actors_of later) scene ≡ true
      reached : price film set group state scene ≡ paid_by state.left early later scene

    cheapest : (state : StateData) (scene : ℕ) → IsCheapest state scene
    cheapest state scene =
        let n : ℕ = length state.here in
        let all_came : can_have_come film state scene n ≡ true
        = ap (λ (xs : List ℕ). is_without film (actors_of xs) scene) (drop-length state.here) ∙ is_none film 0 scene (λ i works there. empty_has i there) in
        let found = least_over_attained (paid_where film set state scene) (numbers state scene) n
        (contains_filter (can_have_come film state scene) (numbers_below (suc n)) n (contains_number (suc n) n (omega arith)) all_came) in record {
          early = take found.0 state.here;
          later = drop found.0 state.here;
          are_here = sym (take-append-drop found.0 state.here);
          not_yet = (contains_from_filter (can_have_come film state scene) (numbers_below (suc n)) found.0 found.1).1;
          reached = ap (λ (m : ℕ). sum_over film.holds (staying state.left scene) + m) found.2;
        }

    -- no other parting is cheaper
    at_most : (state : StateData) (scene : ℕ) (early later : List ℕ) → state.here ≡ early ++ later → is_without film (actors_of later) scene ≡ true
        → price film set group state scene ≤ paid_by state.left early later scene
    at_most state scene early later are_here not_yet =
        let n : ℕ = length early in
        let front : take n state.here ≡ early = ap (take n) are_here ∙ take-append_seam early later in
        let back : drop n state.here ≡ later = ap (drop n) are_here ∙ drop-append_seam early later in
        let within : n < suc (length state.here) = omega (arith, ap length are_here, length-append early later) in
        let possible : can_have_come film state scene n ≡ true = ap (λ (xs : List ℕ). is_without film (actors_of xs) scene) back ∙ not_yet in
        let fewest : least_over (paid_where film set state scene) (numbers state scene) ≤ paid_where film set state scene n
        = least_over_le (paid_where film set state scene) (numbers state scene) n
        (contains_filter (can_have_come film state scene) (numbers_below (suc (length state.here))) n (contains_number (suc (length state.here)) n within) possible) in
        let here : paid_where film set state scene n ≡ sum_over film.holds (came early scene) + sum_over film.holds (held state.left later)
        = ap (λ (xs : List ℕ). sum_over film.holds (came xs scene) + sum_over film.holds (held state.left (drop n state.here))) front
        ∙ ap (λ (xs : List ℕ). sum_over film.holds (came early scene) + sum_over film.holds (held state.left xs)) back in
        omega (arith, fewest, here)

    -- ---- the price where fewer are here, and as they come, leave and go

    pub fewer_price : (state fewer : StateData) (kept : ℕ → Bool) (scene : ℕ) → fewer.left ≡ state.left → fewer.here ≡ filter kept state.here
        → price film set group fewer scene ≤ price film set group state scene
    fewer_price state fewer kept scene same_left kept_here =
        let cast : ℕ = slice_index film.casts scene in
        let best = cheapest state scene in
        let first : List ℕ = filter kept best.early in
        let last : List ℕ = filter kept best.later in
        let none : is_without film (actors_of last) scene ≡ true
        = is_none film (actors_of last) scene (λ i works there.
        none_works film (actors_of best.later) scene i best.not_yet works (listed_filter kept best.later i there)) in
        let most : price film set group fewer scene ≤ paid_by fewer.left first last scene
        = at_most fewer scene first last (kept_here ∙ ap (filter kept) best.are_here ∙ filter-append kept best.early best.later) none in
        let alike : paid_by fewer.left first last scene ≡ paid_by state.left first last scene
        = ap (λ (l : ℕ). paid_by l first last scene) same_left in
        let fewer_came : sum_over film.holds (came first scene) ≤ sum_over film.holds (came best.early scene)
        = sum_over_mono film.holds (came first scene) (came best.early scene) (λ i there.
        let parts = has_from_minus (actors_of first) cast i there in
        has-minus (actors_of best.early) cast i
        ∙ and_from (has (actors_of best.early) i) (not (has cast i)) (listed_filter kept best.early i parts.0) (not_from_false (has cast i) parts.1)) in
        let fewer_held : sum_over film.holds (held state.left last) ≤ sum_over film.holds (held state.left best.later)
        = sum_over_mono film.holds (held state.left last) (held state.left best.later) (λ i there.
        let parts = has_from_meet state.left (mates film set (actors_of last)) i there in
        has-meet state.left (mates film set (actors_of best.later)) i
        ∙ and_from (has state.left i) (has (mates film set (actors_of best.later)) i) parts.0 (mates_of_fewer kept best.later i parts.1)) in
        omega (arith, most, alike, fewer_came, fewer_held, best.reached)

    -- one of the group leaves who doesn't work in the scene
    pub leaving_price : (state : StateData) (actor scene : ℕ) → has (minus group state.left) actor ≡ true
        → has (slice_index film.casts scene) actor ≡ false → price film set group (after state (leaves actor)) scene ≤ price film set group state scene
    leaving_price state actor scene stays idle =
        let cast : ℕ = slice_index film.casts scene in
        let best = cheapest state scene in
        let mates_of : ℕ = mates film set (actors_of best.later) in
        let most : price film set group (after state (leaves actor)) scene ≤ paid_by (with state.left actor) best.early best.later scene
        = at_most (after state (leaves actor)) scene best.early best.later best.are_here best.not_yet in
        let parts = has_from_minus group state.left actor stays in
        let both = two_sums film.holds (staying (with state.left actor) scene) (held (with state.left actor) best.later) (staying state.left scene)
        (held state.left best.later) (λ i. pointwise i cast mates_of parts.0 parts.1 idle) in
        omega (arith, most, both, best.reached)
      where
        has_staying : (left cast i : ℕ) → has (minus (minus group left) cast) i ≡ ((has group i && not (has left i)) && not (has cast i))
        has_staying left cast i = has-minus (minus group left) cast i ∙ ap (λ b. b && not (has cast i)) (has-minus group left i)

        by_test : (same g l c m : Bool) → (same ≡ true → (g ≡ true) × (l ≡ false) × (c ≡ false))
            → cond {A = ℕ} ((g && not (same || l)) && not c) 1 0 + cond {A = ℕ} ((same || l) && m) 1 0
            ≤ cond {A = ℕ} ((g && not l) && not c) 1 0 + cond {A = ℕ} (l && m) 1 0
        by_test false g l c m leaver = omega arith
        by_test true false l c m leaver = absurd (false≢true (leaver refl).0)
        by_test true true true c m leaver = absurd (false≢true (sym (leaver refl).1))
        by_test true true false true m leaver = absurd (false≢true (sym (leaver refl).2))
        by_test true true false false true leaver = omega arith
        by_test true true false false false leaver = omega arith

        pointwise : (i cast mates_of : ℕ) → has group actor ≡ true → has state.left actor ≡ false → has cast actor ≡ false
            → cond {A = ℕ} (has (minus (minus group (with state.left actor)) cast) i) 1 0 + cond {A = ℕ} (has (meet (with state.left actor) mates_of) i) 1 0
            ≤ cond {A = ℕ} (has (minus (minus group state.left) cast) i) 1 0 + cond {A = ℕ} (has (meet state.left mates_of) i) 1 0
        pointwise i cast mates_of member here idle =
            rw (
              has_staying (with state.left actor) cast i,
              has-meet (with state.left actor) mates_of i,
              has-with state.left actor i,
              has_staying state.left cast i,
              has-meet state.left mates_of i,
            ) (by_test (eqb actor i) (has group i) (has state.left i) (has cast i) (has mates_of i) (λ same. elim (eqb_tells actor i) [
              | inl is ↦ (
                subst (λ (k : ℕ). has group k ≡ true) is.1 member,
                subst (λ (k : ℕ). has state.left k ≡ false) is.1 here,
                subst (λ (k : ℕ). has cast k ≡ false) is.1 idle,
              )
              | inr is_not ↦ absurd (false≢true (sym is_not.0 ∙ same))
            ]))

    -- a newcomer comes who doesn't work in the scene: nobody has left who shares a scene with him
    pub coming_price : (state : StateData) (actor scene : ℕ) → AreAwaited state → has state.coming actor ≡ true
        → has (slice_index film.casts scene) actor ≡ false → price film set group (after state (comes actor)) scene ≤ price film set group state scene
    coming_price state actor scene awaited expected idle =
        let best = cheapest state scene in
        let last : List ℕ = best.later ++ actor ∷ [] in
        let either : (i : ℕ) → Contains last i → Contains best.later i ⊎ (actor ≡ i)
        = λ i there. elim (Contains-append_cases best.later (actor ∷ []) i there) [
          | inl before ↦ inl before
          | inr one ↦ elim (contains_cases actor [] i one) [ inl same ↦ inr same | inr none ↦ absurd (contains_none i none) ]
        ] in
        let none : is_without film (actors_of last) scene ≡ true
        = is_none film (actors_of last) scene (λ i works there. elim (either i (listed_has last i there)) [
          | inl before ↦ none_works film (actors_of best.later) scene i best.not_yet works (has_listed best.later i before)
          | inr same ↦ false≢true (sym idle ∙ subst (λ k. has (slice_index film.casts scene) k ≡ true) (sym same) works)
        ]) in
        let most : price film set group (after state (comes actor)) scene ≤ paid_by state.left best.early last scene
        = at_most (after state (comes actor)) scene best.early last
        (ap (λ (xs : List ℕ). xs ++ actor ∷ []) best.are_here ∙ append_assoc best.early best.later (actor ∷ [])) none in
        let no_more_held : sum_over film.holds (held state.left last) ≤ sum_over film.holds (held state.left best.later)
        = sum_over_mono film.holds (held state.left last) (held state.left best.later) (λ i there.
        let parts = has_from_meet state.left (mates film set (actors_of last)) i there in
        let found = mates_share last i parts.1 in
        has-meet state.left (mates film set (actors_of best.later)) i
        ∙ and_from (has state.left i) (has (mates film set (actors_of best.later)) i) parts.0 (elim (either found.one found.listed) [
          | inl before ↦ share_mates best.later i found.scene found.one found.of_set found.works before found.one_works
          | inr same ↦ absurd (none_works film (union state.left state.gone) found.scene i
              (awaited found.scene actor found.of_set (subst (λ k. has (slice_index film.casts found.scene) k ≡ true) (sym same) found.one_works) expected)
              found.works (has-union state.left state.gone i ∙ or_left (has state.left i) (has state.gone i) parts.0))
        ])) in
        omega (arith, most, no_more_held, best.reached)
