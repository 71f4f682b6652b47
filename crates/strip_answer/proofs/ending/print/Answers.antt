use Rattle.std.proofs.Common.{ℕ, List, subst}
use Rattle.strip_io.specs.Sink.{Took, TookFront}
use Rattle.strip_film.specs.declared.shared.Line.{Line}
use Rattle.strip_proof.specs.Rows.{lines_text}
use Rattle.std.proofs.lemmas.Result.{on_err_weaker}
use Rattle.strip_answer.proofs.ending.print.Goals as goal

pub returns-clause-front : goal.returns-clause-front
returns-clause-front g c =
    on_err_weaker c.send_lines.result
    (λ front. c.texts_are_taken_in_parts.ensures.late _ _ _ c.args.answer.now.text.items (lines_text c.args.answer.now.lines.items)
    (subst (λ (l : List ℕ). Took (g.S.Sink.state c.args.out.now).taken (g.S.Sink.state c.send.new.out).taken l) c.deref.ensures.value c.in_ok-send.ensures.ok)
    (subst (λ (l : List Line). TookFront (g.S.Sink.state c.send.new.out).taken (g.S.Sink.state c.send_lines.new.out).taken (lines_text l)) c.deref-2.ensures.value front))
    c.send_lines.ensures.front
