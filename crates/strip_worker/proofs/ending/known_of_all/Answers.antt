use Rattle.std.proofs.Common.{length, ◌∙◌, ap, subst, sym}
use Rattle.strip_mask.proofs.Below.{LiesBelow-full}
use Rattle.strip_film.specs.Film.{LiesIn, all_scenes}
use Rattle.strip_lines.specs.Lines.{rules_of}
use Rattle.strip_lines.proofs.Reached.{known-with, known-without}
use Rattle.strip_worker.proofs.ending.known_of_all.Goals as goal
use Rattle.strip_worker.proofs.ending.known_of_all.Goals.{then-line-all, else-line-all}

pub whole-greatest-requires : goal.whole-greatest-requires
whole-greatest-requires g c = record {
  lies = subst (LiesIn g.B.Bounds.film) (sym (c.all-all.ensures ∙ ap all_scenes c.film-film.ensures)) (LiesBelow-full (length g.B.Bounds.film.casts));
}

pub loop-line-preserved : goal.loop-line-preserved
loop-line-preserved g c =
    let rules = rules_of g.B.Bounds.kind g.B.Bounds.film in
    let i = c.loop-line.line-index in
    elim c.if-line-all.branch [
      | then-line-all w ↦ known-with rules c.args.lines.now i c.all-all.result.0 c.loop-line.greatest c.if-line-all.greatest c.loop-line-test.true
          w.if-line-all.true c.loop-line.invariant (w.greatest-is ∙ w.max-greatest.ensures)
      | else-line-all w ↦ w.greatest-is ∙ known-without rules c.args.lines.now i c.all-all.result.0 c.loop-line.greatest c.loop-line-test.true
          w.if-line-all.false c.loop-line.invariant
    ]
