-- What is at most the cost of finishing is small.
use Rattle.std.proofs.Common.{ℕ, ◌<◌, ◌^◌, length, arith}
use Rattle.strip_mask.specs.Set.{IsSet}
use Rattle.strip_mask.proofs.Below.{is_set_below}
use Rattle.strip_model.specs.Film.{FilmData}
use Rattle.strip_film.specs.Film.{IsFilm, LiesIn}
use Rattle.strip_film.specs.Finish.{IsAtMostFinish, IsFinish}
use Rattle.strip_film.proofs.Costs.{steps_limit}
use Rattle.strip_film.proofs.Least.{finish_exists}
use Rattle.strip_film.proofs.Lists.{AllRemained-from_ready}

pub finish_small : (film : FilmData) (set n : ℕ) → IsFilm film → LiesIn film set → IsAtMostFinish film set n → n < 2 ^ 63
finish_small film set n is lies most =
    let set_is : IsSet set = is_set_below (length film.casts) set is.scene_count.1 lies in
    small set_is (finish_exists film is set set_is)
  where
    small : IsSet set → (cost : ℕ) × IsFinish film set cost → n < 2 ^ 63
    small set_is (cost, finish) =
        let each = finish.attained.1 in
        omega (arith, most finish.attained.0 each, steps_limit film set finish.attained.0 is set_is (AllRemained-from_ready film set finish.attained.0 each.0))
