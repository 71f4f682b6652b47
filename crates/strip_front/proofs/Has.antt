-- Whether one of some paths is along the scenes of another: the one that leaves the same is.
use Rattle.std.proofs.Common.{◌≡◌, ◌≢◌, ℕ, Some, None, List, get_or, All, Contains, sym, ap, ◌∙◌, subst}
use Rattle.std.specs.List.{AllPairs, position}
use Rattle.std.proofs.lemmas.Bool.{eq-eqb, eqb-true, false≢true}
use Rattle.std.proofs.lemmas.List.Elements.{All-contains}
use Rattle.std.proofs.lemmas.List.Quantifiers.{position-Some}
use Rattle.strip_model.specs.Film.{FilmData}
use Rattle.strip_film.specs.Path.{IsPath, PathData}
use Rattle.strip_film.proofs.Started.{same_path}
use Rattle.strip_paths.proofs.Placed.{leaves, none_leaves}
use Rattle.strip_front.proofs.ShorterPaths.{apart_same}

module _ (paths : List PathData) (path : PathData) (rest : ℕ) (is : rest ≡ path.rest) where
  pub none_there : position (leaves rest) paths ≡ None → Contains paths path → ⊥
  none_there none (k, within, at) =
      false≢true (sym (none_leaves rest paths none k path within) ∙ ap (leaves rest) at ∙ eq-eqb path.rest rest (sym is))

  module _ (film : FilmData) (are : All (IsPath film) paths) (apart : AllPairs (λ a b. a.rest ≢ b.rest) paths) (of_film : IsPath film path)
      (there : PathData) (place : ℕ) (found : position (leaves rest) paths ≡ Some place) (stands : there ≡ get_or paths place there) where
    among : Contains paths there
    among = (place, (position-Some (leaves rest) paths place there found).0, sym stands)

    pub there_by_scenes : there.scenes ≡ path.scenes → Contains paths path
    there_by_scenes same = subst (Contains paths) (same_path film there path (All-contains (IsPath film) paths there are among) of_film same) among

    pub scenes_there : Contains paths path → there.scenes ≡ path.scenes
    scenes_there with_it =
        let left : there.rest ≡ rest
        = ap (λ (p : PathData). p.rest) stands ∙ eqb-true (get_or paths place there).rest rest (position-Some (leaves rest) paths place there found).1 in
        ap (λ (p : PathData). p.scenes) (apart_same paths there path apart among with_it (left ∙ is))
