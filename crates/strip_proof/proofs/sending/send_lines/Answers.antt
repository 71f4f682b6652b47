use Rattle.std.proofs.Common.{◌≡◌, ℕ, List, ◌++◌, take, drop, ap, ◌∙◌, subst}
use Rattle.std.proofs.lemmas.Result.{on_err_weaker}
use Rattle.strip_proof.specs.Rows.{lines_text}
use Rattle.strip_io.specs.Sink.{TookFront}
use Rattle.std.proofs.lemmas.List.{take_all}
use Rattle.strip_proof.proofs.Sent.{next_row, on_err, row_added, rows_split}
use Rattle.strip_proof.proofs.sending.send_lines.Goals as goal

pub returns-in_err-add-clause-front : goal.returns-in_err-add-clause-front
returns-in_err-add-clause-front g c =
    let parts = c.loop-line.invariant.parts in
    let rest = lines_text (drop c.loop-line.line-index c.args.lines.now) in
    let whole : (parts.0 ++ c.loop-line.chunk) ++ rest ≡ lines_text c.args.lines.now
    = ap (λ (l : List ℕ). l ++ rest) parts.1 ∙ rows_split c.args.lines.now c.loop-line.line-index in
    on_err _ (subst (λ (l : List ℕ). TookFront (g.S.Sink.state c.args.out.now).taken (g.S.Sink.state c.add.new.out).taken l) whole
    (c.texts_are_taken_in_parts.ensures.early _ _ (parts.0 ++ c.loop-line.chunk) rest
    (c.texts_are_taken_in_parts.ensures.late _ _ _ parts.0 c.loop-line.chunk parts.2 c.in_err-add.ensures.front)))

pub loop-line-preserved : goal.loop-line-preserved
loop-line-preserved g c =
    let parts = c.loop-line.invariant.parts in
    let piece = c.in_ok-add.ensures.ok in
    record {
      unfailed = c.in_ok-add.ensures.unfailed ∙ c.loop-line.invariant.unfailed;
      parts = (
        parts.0 ++ piece.0,
        row_added parts.0 piece.0 c.loop-line.chunk c.add.new.self c.bytes.result.now (lines_text (take c.loop-line.line-index c.args.lines.now)) parts.1 piece.1
            ∙ next_row c.args.lines.now c.loop-line.line-index _ c.bytes.result.now c.loop-line-test.true (c.bytes.ensures.bytes ∙ c.line_text.ensures),
        c.texts_are_taken_in_parts.ensures.whole _ _ _ parts.0 piece.0 parts.2 piece.2,
      );
    }

pub returns-clause-front : goal.returns-clause-front
returns-clause-front g c =
    let parts = c.loop-line.invariant.parts in
    let here : parts.0 ++ c.loop-line.chunk ≡ lines_text c.args.lines.now
    = parts.1 ∙ ap lines_text (take_all c.loop-line.line-index c.args.lines.now c.loop-line-test.false) in
    on_err_weaker c.send.result
    (λ front. subst (λ (l : List ℕ). TookFront (g.S.Sink.state c.args.out.now).taken (g.S.Sink.state c.send.new.out).taken l) here
    (c.texts_are_taken_in_parts.ensures.late _ _ _ parts.0 c.loop-line.chunk parts.2
    (subst (λ (l : List ℕ). TookFront (g.S.Sink.state c.loop-line.out).taken (g.S.Sink.state c.send.new.out).taken l) c.bytes-2.ensures front)))
    c.send.ensures.front
