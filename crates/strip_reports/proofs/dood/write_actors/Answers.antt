use Rattle.std.proofs.Common.{◌++◌, ap, ◌∙◌}
use Rattle.strip_text.specs.Rows.{csv_row}
use Rattle.strip_reports.specs.Text.{actor_fields}
use Rattle.strip_reports.proofs.Written.{row_next}
use Rattle.strip_reports.proofs.dood.write_actors.Goals as goal

pub loop-actor-preserved : goal.loop-actor-preserved
loop-actor-preserved c =
    let fields = actor_fields c.args.inst.now c.args.crews.now in
    c.in_ok-write_actor.ensures ∙ ap (λ text. text ++ csv_row (fields c.loop-actor.actor)) c.loop-actor.invariant
    ∙ row_next fields c.args.text.now c.loop-actor.actor
