use Rattle.std.proofs.Common.{◌≡◌, List, IfOk, subst}
use Rattle.strip_film.specs.declared.shared.Line.{Line}
use Rattle.strip_lines.specs.Lines.{rules_of}
use Rattle.strip_trim.specs.Marks.{AreMarked, marked_lines}
use Rattle.strip_trim.proofs.Places.{trimmed_if}
use Rattle.strip_trim.proofs.trimming.trim.Goals as goal

pub returns : goal.returns
returns g c = record {
  trimmed = trimmed_if (rules_of g.B.Bounds.kind g.B.Bounds.film) c.args.lines.now c.in_ok-marks.marks.items
      (subst (λ (lines : List Line). AreMarked (rules_of g.B.Bounds.kind g.B.Bounds.film) lines c.in_ok-marks.marks.items) c.in_ok-best.ensures c.in_ok-marks.ensures.marked)
      c.marked.result
      (subst (λ marks. IfOk c.marked.result (λ kept. kept.items ≡ marked_lines c.args.lines.now marks)) c.deref.ensures.value c.marked.ensures);
}
