use Rattle.std.proofs.Common.{[], sym, ◌∙◌}
use Rattle.strip_text.proofs.Named.{value_at}
use Rattle.strip_model.specs.Data.{ActorData}
use Rattle.strip_model.specs.Instance.{actor_data}
use Rattle.strip_reports.proofs.order.actor_name.Goals as goal

pub returns : goal.returns
returns c =
    c.as_bytes.ensures.value
    ∙ sym (value_at actor_data (λ (actor : ActorData). actor.name) c.actors.result.now c.args.inst.now.actors c.args.actor
    c.index-actors-actor.result [] c.actors.ensures.actors c.requires)
