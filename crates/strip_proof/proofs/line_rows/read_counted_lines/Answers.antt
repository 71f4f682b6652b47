use Rattle.std.proofs.Common.{◌≡◌, ◌∙◌, ◌∷◌, ◌+◌, drop, sym, inr, arith, refl}
use Rattle.strip_text.proofs.Making.{makes-handed_on}
use Rattle.strip_proof.specs.Faults.{lines_checks}
use Rattle.strip_proof.proofs.read.Lines.{all_made, behind, due-fault, no-fault, one_more_read, row-fault, surplus-fault}
use Rattle.strip_proof.proofs.line_rows.read_counted_lines.Goals as goal

pub returns-in_err-read_due-clause-makes : goal.returns-in_err-read_due-clause-makes
returns-in_err-read_due-clause-makes c =
    let rows = c.args.rows.now.left in
    let l = c.loop-place in
    let fault = c.in_err-read_due.field-0.0 in
    makes-handed_on (lines_checks 9 c.args.count rows) _ fault c.from_residual.ensures.1
    (due-fault 9 rows l.place c.args.count l.rows.left l.lines.items fault l.invariant.left l.invariant.read c.loop-place-test.true c.in_err-read_due.ensures.makes)

pub returns-in_err-take_line-clause-makes : goal.returns-in_err-take_line-clause-makes
returns-in_err-take_line-clause-makes c =
    let rows = c.args.rows.now.left in
    let l = c.loop-place in
    let fault = c.in_err-take_line.field-0.0 in
    makes-handed_on (lines_checks 9 c.args.count rows) _ fault c.from_residual-in_err-take_line.ensures.1
    (row-fault 9 rows l.place c.args.count (9 + l.place) c.read_due.new.row c.read_due.new.rows.left l.lines.items fault (sym l.invariant.left ∙ c.in_ok-read_due.ensures.found)
    refl l.invariant.read c.loop-place-test.true c.in_err-take_line.ensures.makes)

pub loop-place-preserved : goal.loop-place-preserved
loop-place-preserved c =
    let rows = c.args.rows.now.left in
    let l = c.loop-place in
    let here : drop l.place rows ≡ c.read_due.new.row ∷ c.read_due.new.rows.left = sym l.invariant.left ∙ c.in_ok-read_due.ensures.found in
    record {
      read = one_more_read 9 rows l.place (9 + l.place) c.read_due.new.row c.read_due.new.rows.left l.lines.items c.take_line.new.lines.items here refl
          l.invariant.read c.in_ok-take_line.ensures.makes c.in_ok-take_line.ensures.taken;
      left = sym (behind rows l.place c.read_due.new.row c.read_due.new.rows.left here);
    }

pub returns-then-branch-clause-makes : goal.returns-then-branch-clause-makes
returns-then-branch-clause-makes c =
    let rows = c.args.rows.now.left in
    let l = c.loop-place in
    inr (surplus-fault 9 rows l.place c.args.count c.next_row.new.row c.next_row.new.rows.left l.lines.items
    (sym l.invariant.left ∙ c.in_ok-next_row.ensures.found c.if-branch.true) (omega (arith, c.loop-place-test.false, c.loop-place.auto.place-end)) l.invariant.read)

pub returns-clause-makes : goal.returns-clause-makes
returns-clause-makes c =
    let rows = c.args.rows.now.left in
    let l = c.loop-place in
    no-fault 9 rows l.place c.args.count l.lines.items
    (sym l.invariant.left ∙ c.in_ok-next_row.ensures.ended c.if-branch.false) (omega (arith, c.loop-place-test.false, c.loop-place.auto.place-end)) l.invariant.read

pub returns-clause-lines : goal.returns-clause-lines
returns-clause-lines c =
    let rows = c.args.rows.now.left in
    let l = c.loop-place in
    all_made 9 rows l.place l.lines.items (sym l.invariant.left ∙ c.in_ok-next_row.ensures.ended c.if-branch.false) l.invariant.read
