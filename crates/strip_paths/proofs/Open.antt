-- Open firsts, and sets of a film's scenes.
use Rattle.std.proofs.Common.{◌≡◌, ℕ, true, length}
use Rattle.strip_mask.specs.Set.{IsSet, has}
use Rattle.strip_mask.proofs.Below.{LiesBelow-full, is_set_below}
use Rattle.strip_model.specs.Film.{FilmData}
use Rattle.strip_film.specs.Film.{IsFilm, LiesIn, all_scenes}
use Rattle.strip_film.specs.Shoot.{ready}
use Rattle.strip_rule.specs.Rule.{open_firsts}
use Rattle.strip_rule.proofs.Open.{open_is}
use Rattle.strip_rule.proofs.Firsts.{first_there}

-- an open first is ready
pub first_ready : (film : FilmData) (set scene : ℕ) → has (open_firsts film set) scene ≡ true → has (ready film set) scene ≡ true
first_ready film set scene member = (open_is film set scene member).0

pub firsts_lie : (film : FilmData) (set : ℕ) → LiesIn film set → LiesIn film (open_firsts film set)
firsts_lie film set lies scene member = lies scene (first_there film set scene member)

module _ (film : FilmData) (is : IsFilm film) where
  pub all_lie : LiesIn film (all_scenes film)
  all_lie = LiesBelow-full (length film.casts)

  -- a set of a film's scenes is a mask
  pub set_is : (set : ℕ) → LiesIn film set → IsSet set
  set_is set lies = is_set_below (length film.casts) set is.scene_count.1 lies
