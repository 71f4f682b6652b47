use Rattle.std.proofs.Common.{◌≡◌, false, take}
use Rattle.strip_text.specs.Rows.{field_of}
use Rattle.strip_instance.specs.Parts.{actor_fields}
use Rattle.strip_instance.specs.Faults.{contains}
use Rattle.strip_instance.proofs.names.is_earlier_actor.Given as goal

abbrev pub invariant-loop-earlier : goal.invariant-loop-earlier
invariant-loop-earlier l = contains (take l.earlier (actor_fields l.header)) (field_of (actor_fields l.header) l.actor) ≡ false
