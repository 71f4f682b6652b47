use Rattle.std.proofs.Common.{◌≡◌, ℕ, take, length}
use Rattle.strip_mask.specs.Set.{LiesBelow, has}
use Rattle.strip_model.specs.FilmOf.{film_of}
use Rattle.strip_reports.specs.Days.{works_among}
use Rattle.strip_reports.proofs.figures.cast_among.Given as goal

abbrev pub invariant-loop-scene : goal.invariant-loop-scene
invariant-loop-scene l = record {
  cast : (actor : ℕ) → has l.cast.0 actor ≡ works_among (film_of l.inst) (take l.scene-index l.scenes) actor;
  lies : LiesBelow (length l.inst.actors) l.cast.0;
}
