use Rattle.std.proofs.Common.{◌++◌, drop, length, sym, ap, ◌∙◌}
use Rattle.std.proofs.lemmas.List.{length-map}
use Rattle.strip_text.specs.Checks.{first_fault}
use Rattle.strip_text.specs.Rows.{row_of}
use Rattle.strip_text.proofs.Making.{makes-front, makes-past, first_fault-append}
use Rattle.strip_instance.specs.Fault.{fault_data}
use Rattle.strip_instance.specs.Faults.{hold_row_checks, rate_row_checks}
use Rattle.strip_instance.specs.Parts.{body_of, first_of, hold_of}
use Rattle.strip_instance.specs.Shown.{strs}
use Rattle.strip_instance.specs.Text.{actors_of, holds_of, rates_of}
use Rattle.strip_instance.proofs.read.HandedOn.{handed_on}
use Rattle.strip_instance.proofs.read.Whole.{holds-width, rates-width, tells-same}
use Rattle.strip_instance.proofs.rates.read_actors.Goals as goal

pub returns-in_err-rates-clause-makes : goal.returns-in_err-rates-clause-makes
returns-in_err-rates-clause-makes c =
    let header = c.args.header.now in
    let rest = c.args.rows.now.left in
    let rated = rate_row_checks header (row_of rest 0) in
    let held = hold_row_checks header (hold_of (drop 1 rest)) in
    let found = c.in_err-rates.field-0.0 in
    handed_on (rated ++ held) _ found c.from_residual.ensures.1
    (makes-front rated held (fault_data found) c.in_err-rates.ensures.makes)

pub returns-in_err-holds-clause-makes : goal.returns-in_err-holds-clause-makes
returns-in_err-holds-clause-makes c =
    let header = c.args.header.now in
    let rest = c.args.rows.now.left in
    let rated = rate_row_checks header (row_of rest 0) in
    let held = hold_row_checks header (hold_of (drop 1 rest)) in
    let found = c.in_err-holds.field-0.0 in
    let fault = fault_data found in
    handed_on (rated ++ held) _ found c.from_residual-in_err-holds.ensures.1
    (makes-past rated held fault c.in_ok-rates.ensures.makes
    (tells-same fault _ _ (ap (λ list. hold_row_checks header (hold_of list)) (sym c.in_ok-rates.ensures.left)) c.in_err-holds.ensures.makes))

pub actors_of-requires-clause-rates : goal.actors_of-requires-clause-rates
actors_of-requires-clause-rates c =
    let names = c.args.names.now in
    ap length c.deref-2.ensures.value ∙ ap length c.in_ok-rates.ensures.rates
    ∙ rates-width c.args.header.now (row_of c.args.rows.now.left 0) c.in_ok-rates.ensures.makes
    ∙ sym (sym (length-map names (λ text. text.now)) ∙ ap length c.requires.names)

pub actors_of-requires-clause-holds : goal.actors_of-requires-clause-holds
actors_of-requires-clause-holds c =
    let names = c.args.names.now in
    let header = c.args.header.now in
    let hold = hold_of c.read_rates.new.rows.left in
    let wide = ap length c.in_ok-rates.ensures.rates ∙ rates-width header (row_of c.args.rows.now.left 0) c.in_ok-rates.ensures.makes in
    ap length c.deref-3.ensures.value ∙ ap length c.in_ok-holds.ensures.rates ∙ ap (λ list. length (holds_of list hold)) c.deref.ensures.value
    ∙ holds-width header c.in_ok-rates.rates.items hold wide c.in_ok-holds.ensures.makes
    ∙ sym (sym (length-map names (λ text. text.now)) ∙ ap length c.requires.names)

pub returns-clause-makes : goal.returns-clause-makes
returns-clause-makes c =
    let header = c.args.header.now in
    let rest = c.args.rows.now.left in
    first_fault-append (rate_row_checks header (row_of rest 0)) (hold_row_checks header (hold_of (drop 1 rest))) c.in_ok-rates.ensures.makes
    ∙ ap (λ list. first_fault (hold_row_checks header (hold_of list))) (sym c.in_ok-rates.ensures.left) ∙ c.in_ok-holds.ensures.makes

pub returns-clause-actors : goal.returns-clause-actors
returns-clause-actors c =
    let names = strs c.args.names.now in
    let rest = c.args.rows.now.left in
    let rates = rates_of (row_of rest 0) in
    c.in_ok-actors.ensures.actors
    ∙ ap (λ list. actors_of names list c.deref-3.result.now) (c.deref-2.ensures.value ∙ c.in_ok-rates.ensures.rates)
    ∙ ap (actors_of names rates) (c.deref-3.ensures.value ∙ c.in_ok-holds.ensures.rates
    ∙ ap (λ list. holds_of list (hold_of c.read_rates.new.rows.left)) (c.deref.ensures.value ∙ c.in_ok-rates.ensures.rates)
    ∙ ap (λ list. holds_of rates (hold_of list)) c.in_ok-rates.ensures.left)
    ∙ ap (λ list. actors_of list rates (holds_of rates (hold_of (drop 1 rest)))) c.requires.names

pub returns-clause-body : goal.returns-clause-body
returns-clause-body c = c.in_ok-holds.ensures.body ∙ ap body_of c.in_ok-rates.ensures.left

pub returns-clause-counted : goal.returns-clause-counted
returns-clause-counted c = λ there. c.in_ok-holds.ensures.first there ∙ ap first_of c.in_ok-rates.ensures.left
