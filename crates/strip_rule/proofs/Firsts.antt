-- The open firsts of a set are scenes of it.
use Rattle.std.proofs.Common.{◌≡◌, ℕ, true, length}
use Rattle.strip_mask.specs.Set.{IsSet, has}
use Rattle.strip_mask.proofs.Below.{is_set_below}
use Rattle.strip_model.specs.Film.{FilmData}
use Rattle.strip_film.specs.Film.{IsFilm, LiesIn}
use Rattle.strip_film.proofs.Lists.{ready_there}
use Rattle.strip_rule.specs.Rule.{open_firsts}
use Rattle.strip_rule.proofs.Open.{open_is}

-- an open first is a scene of the set
pub first_there : (film : FilmData) (set scene : ℕ) → has (open_firsts film set) scene ≡ true → has set scene ≡ true
first_there film set scene member = ready_there film set scene (open_is film set scene member).0

-- and they are a set too
pub firsts_set : (film : FilmData) (set : ℕ) → IsFilm film → LiesIn film set → IsSet (open_firsts film set)
firsts_set film set is lies =
    is_set_below (length film.casts) (open_firsts film set) is.scene_count.1 (λ scene member. lies scene (first_there film set scene member))
