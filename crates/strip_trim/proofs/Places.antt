-- The places that are marked, and their lines.
use Rattle.std.proofs.Common.{◌≡◌, ℕ, suc, ◌+◌, Bool, true, false, cond, List, [], ◌∷◌, ◌++◌, length, map, filter, Contains, Result, Ok, Err, IfOk, Vec, Global, inl, inr, refl, ap, sym, ◌∙◌, subst, arith, append-nil}
use Rattle.std.proofs.lemmas.Bool.{cond_both}
use Rattle.std.proofs.lemmas.List.{map-append}
use Rattle.std.proofs.lemmas.List.Elements.{All-contains, filter_passes}
use Rattle.std.proofs.lemmas.List.Kept.{IsStrictlyIncreasing-filter}
use Rattle.strip_mask.specs.Set.{numbers_below}
use Rattle.strip_mask.proofs.Members.{contains_number, kept-more, numbers_rise}
use Rattle.strip_model.proofs.Lists.{contains_here, contains_later, contains_cases, contains_none}
use Rattle.strip_film.specs.declared.shared.Line.{Line}
use Rattle.strip_film.specs.Rules.{Rules}
use Rattle.strip_lines.specs.Lines.{line_at}
use Rattle.strip_trim.specs.Marks.{AreMarked, is_marked, marked_lines, marked_places}
use Rattle.strip_trim.specs.Trimmed.{AreTrimmed, LineStays}

-- the lines of the places below n that are marked
abbrev pub marked_below : List Line → List Bool → ℕ → List Line
marked_below lines marks n = map (line_at lines) (filter (is_marked marks) (numbers_below n))

pub none_below : (lines : List Line) (marks : List Bool) → [] ≡ marked_below lines marks 0
unfolding numbers_below
none_below lines marks = refl

module _ (lines : List Line) (marks : List Bool) (n : ℕ) where
  places_more : filter (is_marked marks) (numbers_below (n + 1)) ≡ filter (is_marked marks) (numbers_below n) ++ cond (is_marked marks n) (n ∷ []) []
  places_more =
      let e : n + 1 ≡ suc n = omega arith in
      ap (λ (m : ℕ). filter (is_marked marks) (numbers_below m)) e ∙ kept-more (is_marked marks) n

  pub below_taken : (line : Line) → is_marked marks n ≡ true → line ≡ line_at lines n → marked_below lines marks n ++ line ∷ [] ≡ marked_below lines marks (n + 1)
  below_taken line mark is =
      (λ i. marked_below lines marks n ++ is i ∷ [])
      ∙ (sym (map-append (line_at lines) (filter (is_marked marks) (numbers_below n)) (n ∷ []))
      ∙ ap (map (line_at lines)) (sym (places_more ∙ (λ i. filter (is_marked marks) (numbers_below n) ++ cond (mark i) (n ∷ []) []))))

  pub below_left : is_marked marks n ≡ false → marked_below lines marks n ≡ marked_below lines marks (n + 1)
  below_left none =
      ap (map (line_at lines)) (sym (places_more ∙ ((λ i. filter (is_marked marks) (numbers_below n) ++ cond (none i) (n ∷ []) [])
      ∙ append-nil (filter (is_marked marks) (numbers_below n)))))

-- ---- the marked places

filter_there : (p : ℕ → Bool) (xs : List ℕ) (x : ℕ) → Contains xs x → p x ≡ true → Contains (filter p xs) x
filter_there p [] x there passes = absurd (contains_none x there)
filter_there p (y ∷ ys) x there passes =
    cond_both (p y) (y ∷ filter p ys) (filter p ys) (λ (l : List ℕ). Contains l x)
    (λ _. elim (contains_cases y ys x there) [
      | inl same ↦ subst (λ (z : ℕ). Contains (y ∷ filter p ys) z) same (contains_here y (filter p ys))
      | inr later ↦ contains_later y (filter p ys) x (filter_there p ys x later passes)
    ])
    (λ fails. elim (contains_cases y ys x there) [
      | inl same ↦ absurd (let both : true ≡ false = sym passes ∙ (ap p (sym same) ∙ fails) in cc)
      | inr later ↦ filter_there p ys x later passes
    ])

module _ (rules : Rules) (lines : List Line) (marks : List Bool) (are : AreMarked rules lines marks) where
  marked_there : (place : ℕ) → LineStays rules lines place → Contains (marked_places marks) place
  marked_there place stay =
      filter_there (is_marked marks) (numbers_below (length marks)) place
      (contains_number (length marks) place (omega (arith, stay.best.within, are.count))) ((are.exact place).1 stay)

  -- the marked lines are the trimmed list
  pub trimmed_from : (kept : List Line) → kept ≡ marked_lines lines marks → AreTrimmed rules lines kept
  trimmed_from kept is = record {
    places = marked_places marks;
    rising = IsStrictlyIncreasing-filter (is_marked marks) (numbers_below (length marks)) (numbers_rise (length marks));
    exact = λ place. (
      λ there. (are.exact place).0 (All-contains (λ (i : ℕ). is_marked marks i ≡ true) (marked_places marks) place
          (filter_passes (is_marked marks) (numbers_below (length marks))) there),
      λ stay. marked_there place stay,
    );
    are = is;
  }

  pub trimmed_if : {E : Type 0} (r : Result (Vec Line Global) E) → IfOk r (λ kept. kept.items ≡ marked_lines lines marks)
      → IfOk r (λ trimmed. AreTrimmed rules lines trimmed.items)
  trimmed_if (Ok kept) is = trimmed_from kept.items is
  trimmed_if (Err e) is = tt
