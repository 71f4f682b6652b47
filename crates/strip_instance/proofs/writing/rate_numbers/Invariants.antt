use Rattle.std.proofs.Common.{◌≡◌, take, map}
use Rattle.std.specs.Fmt.{decimal}
use Rattle.std.specs.String.{string_bytes}
use Rattle.strip_model.specs.Instance.{actor_data}
use Rattle.strip_instance.specs.Shown.{rate_of}
use Rattle.strip_instance.proofs.writing.rate_numbers.Given as goal

abbrev pub invariant-loop-actor : goal.invariant-loop-actor
invariant-loop-actor l = map (λ number. string_bytes number) l.numbers.items ≡ map (λ actor. decimal (rate_of l.kind (actor_data actor))) (take l.actor-index l.actors)
