use Rattle.std.proofs.Common.{◌≡◌, ◌+◌, None, refl, sym, ap, ◌∙◌, subst}
use Rattle.strip_text.specs.Checks.{first_fault}
use Rattle.strip_instance.specs.Fault.{fault_data}
use Rattle.strip_instance.specs.Befores.{joined, pairs_of, said_pair}
use Rattle.strip_instance.specs.Faults.{before_checks, befores_checks}
use Rattle.strip_instance.specs.Shown.{names_of, rows_from}
use Rattle.strip_instance.proofs.pairs.SaidPairs.{pairs_of-push}
use Rattle.strip_instance.proofs.read.Body.{at_hand, one_more_read, row-fault}
use Rattle.strip_instance.proofs.read.HandedOn.{handed_on}
use Rattle.strip_instance.proofs.read.Later.{pair_row_checks, read_fit}
use Rattle.strip_instance.proofs.read.Whole.{Tells}
use Rattle.strip_instance.proofs.befores.read_befores.Goals as goal

pub take_before-requires-clause-fit : goal.take_before-requires-clause-fit
take_before-requires-clause-fit c =
    let l = c.loop-there in
    read_fit (names_of c.args.scenes.now) c.args.rows.now.number (rows_from c.args.there c.args.row.now c.args.rows.now.left) (rows_from l.there l.row l.rows.left)
    l.pairs.items l.invariant.read

pub returns-in_err-take_before-clause-makes : goal.returns-in_err-take_before-clause-makes
returns-in_err-take_before-clause-makes c =
    let names = names_of c.args.scenes.now in
    let first = c.args.rows.now.number in
    let rows = rows_from c.args.there c.args.row.now c.args.rows.now.left in
    let l = c.loop-there in
    let found = c.in_err-take_before.field-0.0 in
    let here = at_hand (pair_row_checks names) (pairs_of names) first rows (λ list. list) l.row l.rows.number c.number.result l.rows.left l.there l.pairs.items
    c.loop-there-test.true c.number.ensures l.invariant.read in
    handed_on (befores_checks names first rows) _ found c.from_residual.ensures.1
    (row-fault (pair_row_checks names) (pairs_of names) first rows l.row c.number.result l.rows.left l.pairs.items (fault_data found) here
    (λ earlier made. subst (λ pairs. Tells (fault_data found) (before_checks names pairs c.number.result l.row)) made c.in_err-take_before.ensures.makes))

pub loop-there-preserved : goal.loop-there-preserved
loop-there-preserved c =
    let names = names_of c.args.scenes.now in
    let first = c.args.rows.now.number in
    let rows = rows_from c.args.there c.args.row.now c.args.rows.now.left in
    let l = c.loop-there in
    let here = at_hand (pair_row_checks names) (pairs_of names) first rows (λ list. list) l.row l.rows.number c.number.result l.rows.left l.there l.pairs.items
    c.loop-there-test.true c.number.ensures l.invariant.read in
    record {
      read = one_more_read (pair_row_checks names) (pairs_of names) first rows l.row c.number.result l.rows.left l.pairs.items c.in_ok-there.there
          c.next_row.new.rows.number (rows_from c.in_ok-there.there c.next_row.new.row c.next_row.new.rows.left) c.take_before.new.pairs.items here
          (λ earlier made. subst (λ pairs. first_fault (before_checks names pairs c.number.result l.row) ≡ None) made c.in_ok-take_before.ensures.makes)
          (λ earlier made. c.in_ok-take_before.ensures.pairs ∙ ap (λ pairs. joined pairs (said_pair names l.row)) made
          ∙ sym (pairs_of-push names earlier l.row (said_pair names l.row) refl))
          c.in_ok-there.ensures.found
          (λ there. c.in_ok-there.ensures.counted there ∙ ap (λ n. n + 1) (sym c.number.ensures));
      known = c.in_ok-take_before.ensures.known;
    }
