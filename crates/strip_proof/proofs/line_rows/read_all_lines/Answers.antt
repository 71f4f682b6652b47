use Rattle.std.proofs.Common.{◌≡◌, ◌∙◌, ◌+◌, ℕ, drop, length, ap, subst, sym, vec_len, arith}
use Rattle.strip_text.proofs.Making.{makes-handed_on}
use Rattle.strip_proof.specs.Faults.{lines_checks}
use Rattle.strip_proof.proofs.read.Lines.{AreRead, all_counted, behind, here-length, no-fault, one_more_read, row-fault}
use Rattle.strip_proof.proofs.line_rows.read_all_lines.Goals as goal

number_is : (len count number : ℕ) → number ≡ len → count ≡ len → 6 + number ≡ 6 + count
number_is len count number is same = omega arith

pub returns-in_err-take_line-clause-makes : goal.returns-in_err-take_line-clause-makes
returns-in_err-take_line-clause-makes c =
    let rows = c.args.rows.now.left in
    let l = c.loop-there in
    let count = length l.lines.items in
    let fault = c.in_err-take_line.field-0.0 in
    let here = l.invariant.here c.loop-there-test.true in
    makes-handed_on (lines_checks 6 (length rows) rows) _ fault c.from_residual-in_err-take_line.ensures.1
    (row-fault 6 rows count (length rows) _ l.row l.rows.left l.lines.items fault here (number_is (vec_len l.lines) count c.len.result c.len.ensures (sym l.lines.ok.0)) l.invariant.read (here-length rows count l.row l.rows.left here)
    c.in_err-take_line.ensures.makes)

pub loop-there-preserved : goal.loop-there-preserved
loop-there-preserved c =
    let rows = c.args.rows.now.left in
    let l = c.loop-there in
    let lines = l.lines.items in
    let more = c.take_line.new.lines.items in
    let here = l.invariant.here c.loop-there-test.true in
    let read = one_more_read 6 rows (length lines) _ l.row l.rows.left lines more here (number_is (vec_len l.lines) (length lines) c.len.result c.len.ensures (sym l.lines.ok.0))
    l.invariant.read c.in_ok-take_line.ensures.makes c.in_ok-take_line.ensures.taken in
    let count : length lines + 1 ≡ length more = sym read.counted in
    let left : drop (length more) rows ≡ l.rows.left = ap (λ (n : ℕ). drop n rows) read.counted ∙ behind rows (length lines) l.row l.rows.left here in
    record {
      read = subst (λ (n : ℕ). AreRead 6 rows n more) count read;
      few = c.in_ok-take_line.ensures.few;
      here = λ there. left ∙ c.in_ok-there-2.ensures.found there;
      ended = λ none. left ∙ c.in_ok-there-2.ensures.ended none;
    }

pub returns-clause-makes : goal.returns-clause-makes
returns-clause-makes c =
    let rows = c.args.rows.now.left in
    let l = c.loop-there in
    let none = l.invariant.ended c.loop-there-test.false in
    no-fault 6 rows (length l.lines.items) (length rows) l.lines.items none
    (all_counted 6 rows (length l.lines.items) l.lines.items none l.invariant.read) l.invariant.read
