use Rattle.std.proofs.Common.{◌≡◌, None, take}
use Rattle.strip_text.specs.Checks.{first_fault, below}
use Rattle.strip_instance.specs.Parts.{actor_fields}
use Rattle.strip_instance.specs.Faults.{mark_check}
use Rattle.strip_instance.specs.Text.{cast_of_marks}
use Rattle.strip_instance.proofs.scenes.read_cast.Given as goal

abbrev pub invariant-loop-actor : goal.invariant-loop-actor
invariant-loop-actor l = record {
  pass : first_fault (below l.actor (mark_check l.number l.row)) ≡ None;
  cast : l.cast.0 ≡ cast_of_marks (take l.actor (actor_fields l.row));
}
