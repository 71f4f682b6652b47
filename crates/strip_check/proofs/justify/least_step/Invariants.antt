use Rattle.std.proofs.Common.{◌≡◌, ◌+◌, ◌++◌}
use Rattle.strip_mask.specs.Iter.{rest_of}
use Rattle.strip_mask.specs.Set.{members, without}
use Rattle.strip_film.specs.Shoot.{step_cost}
use Rattle.strip_lines.specs.Lines.{known, rules_of}
use Rattle.strip_check.proofs.Known.{IsLeastOf}
use Rattle.strip_check.proofs.justify.least_step.Given as goal

-- the least of those so far; these and those to come are the firsts
abbrev pub invariant-loop-scene : goal.invariant-loop-scene
invariant-loop-scene g l = record {
  least : IsLeastOf (λ scene. step_cost g.B.Bounds.film l.q.0 scene + known (rules_of g.B.Bounds.kind g.B.Bounds.film) l.best.lines (without l.q.0 scene))
      340282366920938463463374607431768211455 l.least l.yielded;
  turns : l.yielded ++ rest_of l.scene-iterator ≡ members l.fn.firsts.0;
}
