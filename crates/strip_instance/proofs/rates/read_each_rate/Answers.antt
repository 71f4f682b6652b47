use Rattle.std.proofs.Common.{◌<◌, length, arith}
use Rattle.strip_text.proofs.Making.{makes-at, below-more}
use Rattle.strip_instance.specs.Parts.{actor_fields}
use Rattle.strip_instance.specs.Faults.{rate_check, rate_checks}
use Rattle.strip_instance.specs.Shown.{rate_fault}
use Rattle.strip_instance.specs.Fault.{fault_data}
use Rattle.strip_instance.proofs.read.HandedOn.{handed_on}
use Rattle.strip_instance.proofs.read.Rows.{rates-pushed}
use Rattle.strip_instance.proofs.rates.read_each_rate.Goals as goal

pub returns-in_err-read_rate-clause-makes : goal.returns-in_err-read_rate-clause-makes
returns-in_err-read_rate-clause-makes c =
    let row = c.args.row.now in
    let found = c.in_err-read_rate.field-0.0 in
    let fault = fault_data found in
    handed_on (rate_checks (rate_fault c.args.kind) row) _ found c.from_residual.ensures.1
    (makes-at c.loop-actor.actor (length (actor_fields row)) (rate_check (rate_fault c.args.kind) row) fault
    (omega (arith, c.actor_count-actor-end.ensures, c.loop-actor-test.true)) c.loop-actor.invariant.pass c.in_err-read_rate.ensures.makes)

pub loop-actor-preserved : goal.loop-actor-preserved
loop-actor-preserved c =
    let row = c.args.row.now in
    let within : c.loop-actor.actor < length (actor_fields row) = omega (arith, c.actor_count-actor-end.ensures, c.loop-actor-test.true) in
    record {
      pass = below-more c.loop-actor.actor (rate_check (rate_fault c.args.kind) row) c.loop-actor.invariant.pass c.in_ok-read_rate.ensures.makes;
      rates = rates-pushed (actor_fields row) c.loop-actor.actor c.loop-actor.rates.items c.push.new.self.items c.in_ok-read_rate.field-0 within
          c.in_ok-push.ensures.items c.loop-actor.invariant.rates c.in_ok-read_rate.ensures.rate;
    }
