use Rattle.std.proofs.Common.{◌≡◌, take}
use Rattle.strip_model.specs.FilmOf.{film_of}
use Rattle.strip_reports.specs.Days.{crews_of}
use Rattle.strip_reports.proofs.days.crews.Given as goal

abbrev pub invariant-loop-scene : goal.invariant-loop-scene
invariant-loop-scene l = l.crews.items ≡ crews_of (film_of l.inst) (take l.scene-index l.order)
