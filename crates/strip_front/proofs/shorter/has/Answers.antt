use Rattle.std.proofs.Common.{◌≡◌, ◌∙◌, ◌<◌, ℕ, List, Some, length, get_or, sym, ap, arith}
use Rattle.std.specs.List.{position}
use Rattle.std.proofs.lemmas.Bool.{false≢true}
use Rattle.std.proofs.lemmas.List.{get_or-map, length-map}
use Rattle.std.proofs.lemmas.List.Quantifiers.{position-Some}
use Rattle.std.proofs.lemmas.Slice.Eq.{bytes_eq-Decides}
use Rattle.strip_film.specs.declared.path.Path.{Path}
use Rattle.strip_film.specs.Shown.{path_data}
use Rattle.strip_paths.specs.Shown.{paths_of}
use Rattle.strip_paths.proofs.Placed.{leaves}
use Rattle.strip_front.proofs.Has.{none_there, scenes_there, there_by_scenes}
use Rattle.strip_front.proofs.shorter.has.Goals as goal

pub returns-in-Some : goal.returns-in-Some
returns-in-Some c film are apart of_film =
    let place : ℕ = c.in-Some.place in
    let found : position (leaves c.rest.result.0) (paths_of c.args.paths.now) ≡ Some place = sym c.place_of.ensures ∙ c.in-Some.is in
    let within : place < length c.args.paths.now.paths.items
    = omega (arith, (position-Some (leaves c.rest.result.0) (paths_of c.args.paths.now) place (path_data c.args.path.now) found).0, length-map c.args.paths.now.paths.items path_data) in
    let stands : path_data c.index-paths-place.result ≡ get_or (paths_of c.args.paths.now) place (path_data c.index-paths-place.result)
    = ap path_data (c.index-paths-place.is ∙ ap (λ (xs : List Path). get_or xs place c.index-paths-place.result) c.paths.ensures)
    ∙ sym (get_or-map path_data c.args.paths.now.paths.items place c.index-paths-place.result (path_data c.index-paths-place.result) within) in (
      (λ same. there_by_scenes (paths_of c.args.paths.now) (path_data c.args.path.now) c.rest.result.0 c.rest.ensures film are apart of_film
          (path_data c.index-paths-place.result) place found stands
          (sym c.scenes.ensures ∙ (bytes_eq-Decides c.scenes.result.now c.scenes-in-Some.result.now).0 (sym c.eq.ensures ∙ same) ∙ c.scenes-in-Some.ensures)),
      (λ there. c.eq.ensures ∙ (bytes_eq-Decides c.scenes.result.now c.scenes-in-Some.result.now).1
          (c.scenes.ensures ∙ scenes_there (paths_of c.args.paths.now) (path_data c.args.path.now) c.rest.result.0 c.rest.ensures film are apart of_film
          (path_data c.index-paths-place.result) place found stands there ∙ sym c.scenes-in-Some.ensures)),
    )

pub returns-in-None : goal.returns-in-None
returns-in-None c film are apart of_film = (
  (λ same. absurd (false≢true same)),
  (λ there. absurd (none_there (paths_of c.args.paths.now) (path_data c.args.path.now) c.rest.result.0 c.rest.ensures (sym c.place_of.ensures ∙ c.in-None.is) there)),
)
