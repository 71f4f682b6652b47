use Rattle.std.proofs.Common.{◌<◌}
use Rattle.strip_bound.specs.Bounds.{bound}
use Rattle.strip_trim.specs.Marks.{IsBestOf}
use Rattle.strip_trim.proofs.Found.{no_entry}
use Rattle.strip_trim.proofs.Marking.{marked_none}
use Rattle.strip_trim.proofs.marks.mark_below.Goals as goal

pub returns-in_default : goal.returns-in_default
returns-in_default g c = record {
  marked =
      marked_none c.args.marks.now
      (λ place. (bound g.B.Bounds.kind g.B.Bounds.film c.args.q.0 < c.args.need) × IsBestOf c.args.best.now.lines c.args.q.0 place)
      (λ place holds. no_entry c.args.best.now.lines c.args.best.now.entries c.in_default.ensures.best c.args.q.0 place c.in_default.ensures.place holds.1);
}
