-- What a worker of a test has made.
use Rattle.std.specs.Prelude.{◌≡◌, ℕ, ◌<◌, length}
use Rattle.strip_model.specs.Film.{FilmData}
use Rattle.strip_film.specs.Film.{all_scenes}
use Rattle.strip_lines.specs.Lines.{line_at}
use Rattle.strip_hand.specs.Hand.{HandData}

-- the hand knows a line of this number, of all scenes
pub record HasWhole (film : FilmData) (hand : HandData) (line : ℕ) : Type 0 where
  pub there : line < length hand.lines
  pub set : (line_at hand.lines line).set ≡ all_scenes film
