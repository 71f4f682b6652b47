-- Marks on places, one more or none.
use Rattle.std.proofs.Common.{◌≡◌, ℕ, ◌<◌, Bool, true, false, List, length, Some, None, get_or, set, inl, inr, ap, sym, ◌∙◌, subst, arith}
use Rattle.std.proofs.lemmas.Bool.{cases_eq}
use Rattle.std.proofs.lemmas.List.{get_or-set_same, get_or-set_other}
use Rattle.strip_film.specs.declared.shared.Line.{Line}
use Rattle.strip_trim.specs.declared.best.BestLine.{BestLine}
use Rattle.strip_trim.specs.Best.{AreBestLines, IsPlaceOf, best_at, no_best}
use Rattle.strip_trim.specs.Marks.{IsBestOf, MarksMore, is_marked}
use Rattle.strip_trim.proofs.Found.{best_of_entry, no_entry, one_best}

module _ (before : List Bool) (line : ℕ) (Holds : ℕ → Type 0) (room : line < length before) (there : Holds line) (only : (place : ℕ) → Holds place → place ≡ line) where
  pub marked_one : MarksMore before (set before line true) Holds
  marked_one place = elim (cases_eq place line) [
    | inl same ↦ (
      λ _. inr (subst Holds (sym same) there),
      λ _. ap (λ (i : ℕ). get_or (set before line true) i false) same ∙ get_or-set_same before line true false room,
    )
    | inr other ↦ (let stays : is_marked (set before line true) place ≡ is_marked before place = get_or-set_other before line place true false other in (
      λ mark. inl (sym stays ∙ mark),
      λ some. elim some [ inl mark ↦ stays ∙ mark | inr holds ↦ absurd (other (only place holds)) ],
    ))
  ]

pub marked_none : (marks : List Bool) (Holds : ℕ → Type 0) → ((place : ℕ) → Holds place → ⊥) → MarksMore marks marks Holds
marked_none marks Holds none place = (λ mark. inl mark, λ some. elim some [ inl mark ↦ mark | inr holds ↦ absurd (none place holds) ])

module _ (lines : List Line) (entries : List BestLine) (are : AreBestLines lines entries) (q : ℕ) (before : List Bool) (count : length before ≡ length lines) where
  -- the best line of the set is marked
  pub mark_found : (k line : ℕ) → IsPlaceOf entries q (Some k) → line ≡ (best_at entries k).line → MarksMore before (set before line true) (IsBestOf lines q)
  mark_found k line is at =
      let entry : IsBestOf lines (best_at entries k).set (best_at entries k).line = best_of_entry lines (best_at entries k) (are.each k no_best is.0) in
      let here : IsBestOf lines q (best_at entries k).line = (entry.0, entry.1 ∙ is.1) in
      let best : IsBestOf lines q line = subst (IsBestOf lines q) (sym at) here in
      marked_one before line (IsBestOf lines q) (omega (arith, count, best.0.within)) best (λ place other. one_best lines q place line other best)

  pub mark_absent : IsPlaceOf entries q None → MarksMore before before (IsBestOf lines q)
  mark_absent none = marked_none before (IsBestOf lines q) (λ place best. no_entry lines entries are q place none best)
