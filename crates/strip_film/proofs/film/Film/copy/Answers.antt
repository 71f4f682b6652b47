use Rattle.std.proofs.Common.{◌≡◌, ◌∙◌, ℕ, List, length, ap, subst, sym}
use Rattle.std.specs.List.{each_same}
use Rattle.strip_mask.specs.Set.{full}
use Rattle.strip_model.specs.declared.pair.Pair.{Pair}
use Rattle.strip_film.specs.Film.{IsFilm, TellsBefore, film_data}
use Rattle.strip_film.proofs.film.Film.copy.Goals as goal

-- films of equal lists are equal
same_film : (casts days rates holds casts' days' rates' holds' : List ℕ) (pairs pairs' : List Pair) → casts' ≡ casts → days' ≡ days → rates' ≡ rates → holds' ≡ holds → pairs' ≡ pairs
    → film_data casts' days' rates' holds' pairs' ≡ film_data casts days rates holds pairs
same_film casts days rates holds casts' days' rates' holds' pairs pairs' a b c d e =
    ap (λ list. film_data list days' rates' holds' pairs') a ∙ ap (λ list. film_data casts list rates' holds' pairs') b ∙ ap (λ list. film_data casts days list holds' pairs') c
    ∙ ap (λ list. film_data casts days rates list pairs') d ∙ ap (film_data casts days rates holds) e

pub invariant_of-result : goal.invariant_of-result
invariant_of-result c =
    let casts = each_same _ _ c.in_ok-clone.ensures.cases.0 in
    let pairs = each_same _ _ c.in_ok-clone-5.ensures.cases.0 in (
      subst IsFilm (sym (same_film _ _ _ _ _ _ _ _ _ _ casts (each_same _ _ c.in_ok-clone-2.ensures.cases.0) (each_same _ _ c.in_ok-clone-3.ensures.cases.0)
          (each_same _ _ c.in_ok-clone-4.ensures.cases.0) pairs)) c.self.invariant.0,
      c.self.invariant.1 ∙ ap (λ (list : List ℕ). full (length list)) (sym casts),
      subst (λ (list : List Pair). TellsBefore list c.self.inside.before) (sym pairs) c.self.invariant.2,
    )

pub returns : goal.returns
returns c =
    same_film _ _ _ _ _ _ _ _ _ _ (each_same _ _ c.in_ok-clone.ensures.cases.0) (each_same _ _ c.in_ok-clone-2.ensures.cases.0) (each_same _ _ c.in_ok-clone-3.ensures.cases.0)
    (each_same _ _ c.in_ok-clone-4.ensures.cases.0) (each_same _ _ c.in_ok-clone-5.ensures.cases.0)
    ∙ c.self.view_is
