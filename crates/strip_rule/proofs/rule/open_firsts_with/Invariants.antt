use Rattle.std.proofs.Common.{◌≡◌, ◌++◌}
use Rattle.strip_mask.specs.Set.{members}
use Rattle.strip_mask.specs.Iter.{rest_of}
use Rattle.strip_film.specs.Shoot.{ready}
use Rattle.strip_rule.specs.Rule.{is_ruled_out}
use Rattle.strip_rule.proofs.Left.{left_by}
use Rattle.strip_rule.proofs.rule.open_firsts_with.Given as goal

-- those so far that no scene rules out; these and those to come are the ready scenes
abbrev pub invariant-loop-scene : goal.invariant-loop-scene
invariant-loop-scene l = record {
  free : l.open.0 ≡ left_by (is_ruled_out l.film l.fn.q.0) l.yielded;
  turns : l.yielded ++ rest_of l.scene-iterator ≡ members (ready l.film l.fn.q.0);
}
