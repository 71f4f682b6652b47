use Rattle.std.proofs.Common.{◌≡◌, None, take, map}
use Rattle.strip_text.specs.Number.{number_of}
use Rattle.strip_text.specs.Checks.{first_fault, below}
use Rattle.strip_instance.specs.Parts.{actor_fields}
use Rattle.strip_instance.specs.Faults.{rate_check}
use Rattle.strip_instance.specs.Shown.{rate_fault}
use Rattle.strip_instance.proofs.rates.read_each_rate.Given as goal

abbrev pub invariant-loop-actor : goal.invariant-loop-actor
invariant-loop-actor l = record {
  pass : first_fault (below l.actor (rate_check (rate_fault l.kind) l.row)) ≡ None;
  rates : l.rates.items ≡ map number_of (take l.actor (actor_fields l.row));
}
