use Rattle.std.proofs.Common.{length, ◌<◌, arith, ap, sym, ◌∙◌}
use Rattle.strip_text.proofs.Making.{makes-at, below-more}
use Rattle.strip_instance.specs.Parts.{actor_fields}
use Rattle.strip_instance.specs.Faults.{mark_check, mark_checks}
use Rattle.strip_instance.specs.Fault.{fault_data}
use Rattle.strip_instance.proofs.read.HandedOn.{handed_on}
use Rattle.strip_instance.proofs.read.Marks.{cast-joined, cast-kept}
use Rattle.strip_instance.proofs.scenes.read_cast.Goals as goal
use Rattle.strip_instance.proofs.scenes.read_cast.Goals.{then-branch, else-branch}

pub returns-in_err-read_mark-clause-makes : goal.returns-in_err-read_mark-clause-makes
returns-in_err-read_mark-clause-makes c =
    let row = c.args.row.now in
    let found = c.in_err-read_mark.field-0.0 in
    let fault = fault_data found in
    handed_on (mark_checks c.args.number row) _ found c.from_residual.ensures.1
    (makes-at c.loop-actor.actor (length (actor_fields row)) (mark_check c.args.number row) fault (omega (arith, c.actor_count-actor-end.ensures, c.loop-actor-test.true)) c.loop-actor.invariant.pass c.in_err-read_mark.ensures.makes)

pub loop-actor-preserved : goal.loop-actor-preserved
loop-actor-preserved c =
    let row = c.args.row.now in
    let within : c.loop-actor.actor < length (actor_fields row) = omega (arith, c.actor_count-actor-end.ensures, c.loop-actor-test.true) in
    record {
      pass = below-more c.loop-actor.actor (mark_check c.args.number row) c.loop-actor.invariant.pass c.in_ok-read_mark.ensures.makes;
      cast = elim c.if-branch.branch [
        | then-branch w ↦ ap (λ mask. mask.0) w.cast-is ∙ w.with-cast.ensures ∙ cast-joined (actor_fields row) c.loop-actor.cast.0 c.loop-actor.actor within (sym c.in_ok-read_mark.ensures.mark ∙ w.if-branch.true) c.loop-actor.invariant.cast
        | else-branch w ↦ ap (λ mask. mask.0) w.cast-is ∙ cast-kept (actor_fields row) c.loop-actor.cast.0 c.loop-actor.actor within (sym c.in_ok-read_mark.ensures.mark ∙ w.if-branch.false) c.loop-actor.invariant.cast
      ];
    }
