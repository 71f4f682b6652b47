use Rattle.std.proofs.Common.{◌≡◌, ◌≤◌, None, take}
use Rattle.strip_text.specs.Checks.{first_fault, below}
use Rattle.strip_instance.specs.Parts.{actor_fields}
use Rattle.strip_instance.specs.Faults.{actor_name_checks}
use Rattle.strip_instance.specs.Shown.{strs}
use Rattle.strip_instance.proofs.header.read_names.Given as goal

abbrev pub invariant-loop-actor : goal.invariant-loop-actor
invariant-loop-actor l = record {
  pass : first_fault (below l.actor (actor_name_checks (actor_fields l.header))) ≡ None;
  names : strs l.names.items ≡ take l.actor (actor_fields l.header);
  few : l.actor ≤ 64;
}
