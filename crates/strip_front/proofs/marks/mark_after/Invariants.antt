use Rattle.std.proofs.Common.{◌≡◌, ◌++◌}
use Rattle.strip_mask.specs.Set.{members}
use Rattle.strip_mask.specs.Iter.{rest_of}
use Rattle.strip_rule.specs.Rule.{open_firsts}
use Rattle.strip_front.specs.Marked.{MarksMore}
use Rattle.strip_front.specs.Shown.{front_data}
use Rattle.strip_front.proofs.Asked.{Leaves}
use Rattle.strip_front.proofs.marks.mark_after.Given as goal

-- the tasks that the scenes so far leave are asked for; these and those to come are the open firsts
abbrev pub invariant-loop-scene : goal.invariant-loop-scene
invariant-loop-scene l = record {
  marks : MarksMore (front_data l.fn.front) (front_data l.front) (Leaves (front_data l.fn.front) l.rest.0 l.yielded);
  turns : l.yielded ++ rest_of l.scene-iterator ≡ members (open_firsts l.film l.rest.0);
}
