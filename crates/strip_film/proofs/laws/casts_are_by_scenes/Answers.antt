use Rattle.strip_film.proofs.Located.{cast_by_scenes, location_by_scenes}
use Rattle.strip_film.proofs.laws.casts_are_by_scenes.Goals as goal

pub returns : goal.returns
returns c = record { cast = cast_by_scenes; location = location_by_scenes }
