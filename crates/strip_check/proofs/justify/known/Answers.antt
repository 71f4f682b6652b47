use Rattle.std.proofs.Common.{arith}
use Rattle.strip_lines.specs.Lines.{rules_of}
use Rattle.strip_trim.proofs.BestKnown.{known_best}
use Rattle.strip_check.proofs.justify.known.Goals as goal

pub returns : goal.returns
returns g c = omega (arith, c.max.ensures, c.whole.ensures, c.bound_of.ensures, known_best (rules_of g.B.Bounds.kind g.B.Bounds.film) c.args.best.now.lines c.args.q.0)
