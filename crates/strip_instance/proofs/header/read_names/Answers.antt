use Rattle.std.proofs.Common.{length, arith, sym, ◌∙◌}
use Rattle.strip_text.specs.Checks.{below}
use Rattle.strip_text.proofs.Making.{makes-at, makes-behind, below-more}
use Rattle.strip_instance.specs.Parts.{actor_fields}
use Rattle.strip_instance.specs.Faults.{actor_name_checks, header_checks, is_header}
use Rattle.strip_instance.specs.Fault.{BadHeader, fault_data}
use Rattle.strip_instance.proofs.read.HandedOn.{handed_on}
use Rattle.strip_instance.proofs.read.EarlierNames.{names-pushed}
use Rattle.strip_instance.proofs.header.read_names.Goals as goal

pub returns-in_err-read_name-clause-makes : goal.returns-in_err-read_name-clause-makes
returns-in_err-read_name-clause-makes c =
    let header = c.args.header.now in
    let names = actor_fields header in
    let found = c.in_err-read_name.field-0.0 in
    let fault = fault_data found in
    handed_on (header_checks header) _ found c.from_residual.ensures.1
    (makes-behind (is_header header) BadHeader (below (length names) (actor_name_checks names)) fault (sym c.is_header.ensures ∙ c.if-not-is_header.false)
    (makes-at c.loop-actor.actor (length names) (actor_name_checks names) fault (omega (arith, c.actor_count-actor-end.ensures, c.loop-actor-test.true)) c.loop-actor.invariant.pass c.in_err-read_name.ensures.makes))

pub loop-actor-preserved : goal.loop-actor-preserved
loop-actor-preserved c = record {
  pass = below-more c.loop-actor.actor (actor_name_checks (actor_fields c.args.header.now)) c.loop-actor.invariant.pass c.in_ok-read_name.ensures.makes;
  names = names-pushed (actor_fields c.args.header.now) c.loop-actor.actor c.loop-actor.names.items c.push.new.self.items c.in_ok-read_name.field-0
      (omega (arith, c.actor_count-actor-end.ensures, c.loop-actor-test.true)) c.in_ok-push.ensures.items c.loop-actor.invariant.names c.in_ok-read_name.ensures.name;
  few = omega (arith, c.in_ok-read_name.ensures.few);
}
