use Rattle.std.proofs.Common.{◌≡◌, take, map, arith, sym, ap, ◌∙◌}
use Rattle.std.specs.Fmt.{decimal}
use Rattle.std.proofs.lemmas.List.{take_all}
use Rattle.std.proofs.lemmas.Simd.{map-map}
use Rattle.strip_model.specs.Instance.{actor_data}
use Rattle.strip_instance.specs.Shown.{rate_of}
use Rattle.strip_instance.proofs.writing.rate_numbers.Goals as goal

pub returns : goal.returns
returns c =
    let actors = c.args.actors.now in
    let all : take c.loop-actor.actor-index actors ≡ actors = take_all c.loop-actor.actor-index actors (omega arith) in
    c.loop-actor.invariant ∙ ap (map (λ actor. decimal (rate_of c.args.kind (actor_data actor)))) all
    ∙ sym (map-map (λ actor. decimal (rate_of c.args.kind actor)) actor_data actors)
