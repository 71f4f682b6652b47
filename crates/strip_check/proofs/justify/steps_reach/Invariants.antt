use Rattle.std.proofs.Common.{◌≡◌, ◌≤◌, ◌+◌, ◌++◌, All}
use Rattle.strip_mask.specs.Iter.{rest_of}
use Rattle.strip_mask.specs.Set.{members, without}
use Rattle.strip_film.specs.Shoot.{step_cost}
use Rattle.strip_lines.specs.Lines.{known, rules_of}
use Rattle.strip_memo.specs.Memo.{IsMemo}
use Rattle.strip_check.proofs.justify.steps_reach.Given as goal

-- the scenes so far reach the bound; these and those to come are the firsts
abbrev pub invariant-loop-scene : goal.invariant-loop-scene
invariant-loop-scene g l = record {
  reach : All (λ scene. l.bound ≤ step_cost g.B.Bounds.film l.q.0 scene + known (rules_of g.B.Bounds.kind g.B.Bounds.film) l.best.lines (without l.q.0 scene)) l.yielded;
  turns : l.yielded ++ rest_of l.scene-iterator ≡ members l.fn.firsts.0;
}
