-- What a later path counts, and what is counted in parts.
use Rattle.std.proofs.Common.{◌≡◌, ℕ, ◌+◌, ◌≤◌, Bool, true, false, not, ◌&&◌, ◌||◌, eqb, ltb, Option, Some, None, List, [], ◌∷◌, get_or, count_by, inl, inr, refl, sym, ap, ◌∙◌, subst, arith}
use Rattle.std.specs.Cmp.Lexicographic.{pointwise, bytes_decides}
use Rattle.std.specs.Prelude.{nat_eq}
use Rattle.std.proofs.lemmas.Bool.{lt-ltb, ltb-true, eq-eqb, eqb-true, false≢true, and_parts, or_cases, false_from_ne_true, and_from}
use Rattle.strip_mask.proofs.Sizes.{mark, mark_le}
use Rattle.strip_mask.specs.Set.{without}
use Rattle.strip_film.specs.Film.{IsFilm, all_scenes}
use Rattle.strip_film.specs.Path.{PathData}
use Rattle.strip_film.specs.Ranks.{IsEarlier, IsSooner}
use Rattle.strip_film.specs.Rules.{Rules, rank}
use Rattle.strip_film.proofs.Ranks.{earlier-itself, earlier_trans}
use Rattle.strip_film.proofs.Started.{same_path}
use Rattle.strip_lines.specs.Paths.{ComesAfter, IsUnfinished, is_earlier, is_sooner, number_of, number_up_to, path_along, up_to}
use Rattle.strip_lines.proofs.Sums.{count_two}
use Rattle.strip_lines.proofs.Enumerated.{all_unfinished, counted_once, lists}
use Rattle.std.proofs.Math.Bool.{or-true}

-- ---- the order of lists as a test

module _ (rules : Rules) where
  sooner_from : (ranks : ℕ → ℕ) (s t : ℕ) → is_sooner ranks s t ≡ true → IsSooner ranks s t
  sooner_from ranks s t is = elim (or_cases (ltb (ranks s) (ranks t)) (eqb (ranks s) (ranks t) && ltb s t) is) [
    | inl less ↦ inl (ltb-true (ranks s) (ranks t) less)
    | inr tie ↦ inr (let both = and_parts (eqb (ranks s) (ranks t)) (ltb s t) tie in (eqb-true (ranks s) (ranks t) both.0, ltb-true s t both.1))
  ]

  from_sooner : (ranks : ℕ → ℕ) (s t : ℕ) → IsSooner ranks s t → is_sooner ranks s t ≡ true
  from_sooner ranks s t (inl less) = ap (λ (b : Bool). b || (eqb (ranks s) (ranks t) && ltb s t)) (lt-ltb (ranks s) (ranks t) less)
  from_sooner ranks s t (inr (tie, less)) =
      (λ i. ltb (ranks s) (ranks t) || (eq-eqb (ranks s) (ranks t) tie i && lt-ltb s t less i)) ∙ or-true (ltb (ranks s) (ranks t))

  pub earlier_from : (set : ℕ) (xs ys : List ℕ) → is_earlier rules set xs ys ≡ true → IsEarlier rules set xs ys
  earlier_from set xs [] is = false≢true is
  earlier_from set [] (y ∷ ys) is = tt
  earlier_from set (x ∷ xs) (y ∷ ys) is = elim (or_cases (is_sooner (rank rules set) x y) (eqb x y && is_earlier rules (without set x) xs ys) is) [
    | inl sooner ↦ inl (sooner_from (rank rules set) x y sooner)
    | inr tie ↦ inr (let both = and_parts (eqb x y) (is_earlier rules (without set x) xs ys) tie in (eqb-true x y both.0, earlier_from (without set x) xs ys both.1))
  ]

  pub from_earlier : (set : ℕ) (xs ys : List ℕ) → IsEarlier rules set xs ys → is_earlier rules set xs ys ≡ true
  from_earlier set xs [] earlier = absurd earlier
  from_earlier set [] (y ∷ ys) earlier = refl
  from_earlier set (x ∷ xs) (y ∷ ys) (inl sooner) =
      ap (λ (b : Bool). b || (eqb x y && is_earlier rules (without set x) xs ys)) (from_sooner (rank rules set) x y sooner)
  from_earlier set (x ∷ xs) (y ∷ ys) (inr (tie, rest)) =
      (λ i. is_sooner (rank rules set) x y || (eq-eqb x y tie i && from_earlier (without set x) xs ys rest i)) ∙ or-true (is_sooner (rank rules set) x y)

-- ---- facts on tests

pub mark_two : (a q b : Bool) → (a ≡ true → b ≡ true) → (q ≡ true → b ≡ true) → (q ≡ true → a ≡ false) → mark a + mark q ≤ mark b
mark_two a true b first second apart =
    let none : mark a ≡ 0 = ap mark (apart refl) in let whole : mark b ≡ 1 = ap mark (second refl) in omega (arith, none, whole)
mark_two a false b first second apart = (let le : mark a ≤ mark b = mark_le a b first in omega (arith, le))

module _ (rules : Rules) where
  abbrev all : ℕ
  all = all_scenes rules.film

  -- a path up to the last one isn't later
  pub up_to_from : (last : Option PathData) (test : PathData → Bool) (path next : PathData) → ComesAfter rules last next → up_to rules last test path ≡ true
      → (test path ≡ true) × (IsEarlier rules all next.scenes path.scenes → ⊥)
  up_to_from None test path next after is = absurd (false≢true is)
  up_to_from (Some last) test path next after is =
      let both = and_parts (not (is_earlier rules all last.scenes path.scenes)) (test path) is in (
        both.1,
        λ before. (let further : is_earlier rules all last.scenes path.scenes ≡ true = from_earlier rules all last.scenes path.scenes (earlier_trans rules all last.scenes next.scenes path.scenes after before) in
            false≢true (sym (ap not further) ∙ both.0)),
      )

  pub to_up_to : (next : PathData) (test : PathData → Bool) (path : PathData) → test path ≡ true → (IsEarlier rules all next.scenes path.scenes → ⊥) → up_to rules (Some next) test path ≡ true
  to_up_to next test path passes apart =
      and_from (not (is_earlier rules all next.scenes path.scenes)) (test path)
      (ap not (false_from_ne_true (is_earlier rules all next.scenes path.scenes) (λ is. apart (earlier_from rules all next.scenes path.scenes is)))) passes

  -- a path that comes after the last one isn't one up to it
  pub not_up_to : (last : Option PathData) (test : PathData → Bool) (next : PathData) → ComesAfter rules last next → up_to rules last test next ≡ true → ⊥
  not_up_to None test next after before = false≢true before
  not_up_to (Some last) test next after before =
      let both = and_parts (not (is_earlier rules all last.scenes next.scenes)) (test next) before in
      false≢true (sym (ap not (from_earlier rules all last.scenes next.scenes after)) ∙ both.0)

module _ (rules : Rules) (is : IsFilm rules.film) where
  abbrev pub at : (scenes : List ℕ) → PathData
  at scenes = path_along rules.film scenes

  abbrev pub same_as : PathData → List ℕ → Bool
  same_as path scenes = pointwise nat_eq path.scenes scenes

  -- a path along the same scenes is the same path
  pub same_there : (next : PathData) (scenes : List ℕ) → IsUnfinished rules.film next → IsUnfinished rules.film (at scenes) → same_as next scenes ≡ true → at scenes ≡ next
  same_there next scenes unfinished here same =
      same_path rules.film (at scenes) next here.0 unfinished.0 (sym ((bytes_decides next.scenes scenes).0 same))

  module _ (last : Option PathData) (next : PathData) (test : PathData → Bool) (after : ComesAfter rules last next) where
    one_more_at : (scenes : List ℕ) → IsUnfinished rules.film next → test next ≡ true → IsUnfinished rules.film (at scenes)
        → mark (up_to rules last test (at scenes)) + mark (same_as next scenes) ≤ mark (up_to rules (Some next) test (at scenes))
    one_more_at scenes unfinished passes here =
        mark_two (up_to rules last test (at scenes)) (same_as next scenes) (up_to rules (Some next) test (at scenes))
        (λ before. (let found = up_to_from rules last test (at scenes) next after before in to_up_to rules next test (at scenes) found.0 found.1))
        (λ same. (let tie = same_there next scenes unfinished here same in
        subst (λ (p : PathData). up_to rules (Some next) test p ≡ true) (sym tie) (to_up_to rules next test next passes (earlier-itself rules (all_scenes rules.film) next.scenes))))
        (λ same. false_from_ne_true (up_to rules last test (at scenes)) (λ before. (let tie = same_there next scenes unfinished here same in
        not_up_to rules last test next after (subst (λ (p : PathData). up_to rules last test p ≡ true) tie before))))

    pub counts_more : IsUnfinished rules.film next → test next ≡ true → number_up_to rules last test + 1 ≤ number_up_to rules (Some next) test
    counts_more unfinished passes =
        let both = count_two (λ scenes. up_to rules last test (at scenes)) (same_as next) (λ scenes. up_to rules (Some next) test (at scenes)) (lists rules.film is)
        (λ k d lt. one_more_at (get_or (lists rules.film is) k d) unfinished passes (all_unfinished rules.film is k d lt)) in
        omega (arith, both, counted_once rules.film is next unfinished)

    pub counts_stay : number_up_to rules last test ≤ number_up_to rules (Some next) test
    counts_stay =
        let both : count_by (λ scenes. up_to rules last test (at scenes)) (lists rules.film is) + count_by (λ scenes. false) (lists rules.film is) ≤ count_by (λ scenes. up_to rules (Some next) test (at scenes)) (lists rules.film is)
        = count_two (λ scenes. up_to rules last test (at scenes)) (λ scenes. false) (λ scenes. up_to rules (Some next) test (at scenes)) (lists rules.film is)
        (λ k d lt. mark_two (up_to rules last test (at (get_or (lists rules.film is) k d))) false (up_to rules (Some next) test (at (get_or (lists rules.film is) k d)))
        (λ before. (let found = up_to_from rules last test (at (get_or (lists rules.film is) k d)) next after before in to_up_to rules next test (at (get_or (lists rules.film is) k d)) found.0 found.1))
        (λ e. absurd (false≢true e)) (λ e. absurd (false≢true e))) in
        omega (arith, both)

  pub up_to_passes : (last : Option PathData) (test : PathData → Bool) (path : PathData) → up_to rules last test path ≡ true → test path ≡ true
  up_to_passes None test path is_there = absurd (false≢true is_there)
  up_to_passes (Some last) test path is_there = (and_parts (not (is_earlier rules (all_scenes rules.film) last.scenes path.scenes)) (test path) is_there).1

  pub counts_most : (last : Option PathData) (test : PathData → Bool) → number_up_to rules last test ≤ number_of rules.film test
  counts_most last test =
      let both : count_by (λ scenes. up_to rules last test (at scenes)) (lists rules.film is) + count_by (λ scenes. false) (lists rules.film is) ≤ count_by (λ scenes. test (at scenes)) (lists rules.film is)
      = count_two (λ scenes. up_to rules last test (at scenes)) (λ scenes. false) (λ scenes. test (at scenes)) (lists rules.film is)
      (λ k d lt. mark_two (up_to rules last test (at (get_or (lists rules.film is) k d))) false (test (at (get_or (lists rules.film is) k d)))
      (up_to_passes last test (at (get_or (lists rules.film is) k d))) (λ e. absurd (false≢true e)) (λ e. absurd (false≢true e))) in
      omega (arith, both)
