-- Who is on location, by scenes.
use Rattle.std.proofs.Common.{◌≡◌, ◌↔◌, ℕ, true, length, ◌∙◌}
use Rattle.strip_mask.specs.Set.{IsSet, LiesBelow, has, minus}
use Rattle.strip_mask.proofs.ByMembers.{has-meet, has_from_meet}
use Rattle.std.proofs.lemmas.Bool.{and_from}
use Rattle.strip_mask.proofs.Below.{is_set_below, LiesBelow-minus}
use Rattle.strip_model.specs.Film.{FilmData}
use Rattle.strip_film.specs.Film.{IsFilm, LiesIn, all_scenes}
use Rattle.strip_film.specs.Shoot.{cast_of, on_location}
use Rattle.strip_film.specs.Located.{WorksInside, WorksOutside}
use Rattle.strip_film.proofs.Casts.{cast_has, has_cast, called_is, is_called, cast_lies}

pub cast_by_scenes : (film : FilmData) (set actor : ℕ) → IsSet set
    → (has (cast_of film set) actor ≡ true) ↔ WorksInside film set actor
cast_by_scenes film set actor is = (cast_has film set actor, has_cast film set actor is)

pub location_by_scenes : (film : FilmData) (set actor : ℕ) → IsFilm film → LiesIn film set
    → (has (on_location film set) actor ≡ true) ↔ (WorksInside film set actor × WorksOutside film set actor)
location_by_scenes film set actor is lies = (
  λ member. (let parts = has_from_meet (cast_of film set) (cast_of film (minus (all_scenes film) set)) actor member in
      (cast_has film set actor parts.0, called_is film set actor parts.1)),
  λ both. has-meet (cast_of film set) (cast_of film (minus (all_scenes film) set)) actor
      ∙ and_from (has (cast_of film set) actor) (has (cast_of film (minus (all_scenes film) set)) actor)
      (has_cast film set actor (is_set_below (length film.casts) set is.scene_count.1 lies) both.0)
      (is_called film set actor is both.1),
)

-- who is on location are actors of the film
pub location_lies : (film : FilmData) (set : ℕ) → IsFilm film → LiesBelow (length film.rates) (on_location film set)
location_lies film set is actor member =
    let found = cast_has film set actor (has_from_meet (cast_of film set) (cast_of film (minus (all_scenes film) set)) actor member).0 in
    cast_lies film found.0 is actor found.2

-- so are those of them who wait
pub waiting_lies : (film : FilmData) (set cast : ℕ) → IsFilm film → LiesBelow (length film.rates) (minus (on_location film set) cast)
waiting_lies film set cast is = LiesBelow-minus (length film.rates) (on_location film set) cast (location_lies film set is)
