-- The children of a path that are walked, and what the others reach.
use Rattle.std.specs.Prelude.{◌≡◌, ℕ, ◌+◌, ◌≤◌, true, false, List, Contains}
use Rattle.strip_mask.specs.Set.{has, without}
use Rattle.strip_model.specs.declared.kind.Kind.{Kind}
use Rattle.strip_model.specs.Film.{FilmData}
use Rattle.strip_film.specs.Path.{PathData}
use Rattle.strip_film.specs.Rules.{rank}
use Rattle.strip_film.specs.Shoot.{step_cost}
use Rattle.strip_film.specs.Shown.{turns_data}
use Rattle.strip_film.specs.Turns.{GoBy}
use Rattle.strip_bound.specs.Bounds.{bound}
use Rattle.strip_lines.specs.Lines.{rules_of}
use Rattle.strip_rule.specs.Rule.{open_firsts}
use Rattle.strip_walk.specs.declared.found.Sifted.{Sifted}
use Rattle.strip_walk.specs.declared.found.Weighed.{Weighed}

-- of the scenes of a list: those to be walked are among them, the least reaches no further than any other, and
-- takes all of the room
pub record AreWeighed (kind : Kind) (film : FilmData) (set room : ℕ) (scenes : List ℕ) (weighed : Weighed) : Type 0 where
  pub within : (scene : ℕ) → has weighed.visit.0 scene ≡ true → Contains scenes scene
  pub passed : (scene : ℕ) → Contains scenes scene → has weighed.visit.0 scene ≡ false
      → weighed.least ≤ step_cost film set scene + bound kind film (without set scene)
  pub enough : room ≤ weighed.least

-- the scenes that are still to be walked
abbrev pub to_walk : Sifted → ℕ
to_walk sifted = (turns_data sifted.visit).left

-- they go by their ranks in the set
abbrev pub AreRanked : Kind → FilmData → ℕ → Sifted → Type 0
AreRanked kind film set sifted = GoBy (rank (rules_of kind film) set) (turns_data sifted.visit)

-- those to be walked are open firsts, by their ranks; the least reaches no further than the step and the static
-- bound of each other; and the path with it is no cheaper than the least cost told
pub record AreSifted (kind : Kind) (film : FilmData) (path : PathData) (told : ℕ) (sifted : Sifted) : Type 0 where
  pub within : (scene : ℕ) → has (to_walk sifted) scene ≡ true → has (open_firsts film path.rest) scene ≡ true
  pub ranks : AreRanked kind film path.rest sifted
  pub passed : (scene : ℕ) → has (open_firsts film path.rest) scene ≡ true → has (to_walk sifted) scene ≡ false
      → sifted.least ≤ step_cost film path.rest scene + bound kind film (without path.rest scene)
  pub enough : told ≤ path.paid + sifted.least
