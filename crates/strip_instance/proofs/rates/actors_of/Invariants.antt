use Rattle.std.proofs.Common.{◌≡◌, map}
use Rattle.std.specs.List.{range_with_len}
use Rattle.strip_model.specs.Instance.{actor_data}
use Rattle.strip_instance.specs.Shown.{strs}
use Rattle.strip_instance.specs.Text.{actor_of}
use Rattle.strip_instance.proofs.rates.actors_of.Given as goal

abbrev pub invariant-loop-actor : goal.invariant-loop-actor
invariant-loop-actor l = (map actor_data l.actors.items ≡ map (actor_of (strs l.names) l.rates l.holds) (range_with_len 0 l.actor))
