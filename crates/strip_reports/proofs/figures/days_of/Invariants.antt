use Rattle.std.proofs.Common.{◌≡◌, ◌*◌, ◌≤◌, take}
use Rattle.strip_model.specs.FilmOf.{film_of}
use Rattle.strip_reports.specs.Days.{days_of}
use Rattle.strip_reports.proofs.figures.days_of.Given as goal

abbrev pub invariant-loop-scene : goal.invariant-loop-scene
invariant-loop-scene l = record {
  days : l.days ≡ days_of (film_of l.inst) (take l.scene-index l.scenes);
  small : l.days ≤ 99 * l.scene-index;
}
