use Rattle.std.proofs.Common.{◌≡◌, ◌<◌, List, length, ap, subst, ◌∙◌}
use Rattle.strip_film.specs.declared.shared.Line.{Line}
use Rattle.strip_lines.specs.Lines.{line_at}
use Rattle.strip_hand.specs.Search.{search_rules}
use Rattle.strip_world.specs.World.{WorldData}
use Rattle.strip_lines.proofs.Reached.{known-with, known-without}
use Rattle.strip_world.proofs.world.World.known.Goals as goal
use Rattle.strip_world.proofs.world.World.known.Goals.{then-line-set, else-line-set}

pub loop-line-preserved : goal.loop-line-preserved
loop-line-preserved g c =
    let rules = search_rules c.args.self.now.search in
    let i = c.loop-line.line-index in
    let same : c.deref-line-items.result.now ≡ c.args.self.now.lines = c.deref-line-items.ensures.value ∙ ap (λ (w : WorldData). w.lines) c.self.view_is in
    let within : i < length c.args.self.now.lines = subst (λ (lines : List Line). i < length lines) same c.loop-line-test.true in
    let line : line_at c.deref-line-items.result.now i ≡ line_at c.args.self.now.lines i = ap (λ (lines : List Line). line_at lines i) same in
    elim c.if-line-set.branch [
      | then-line-set w ↦ known-with rules c.args.self.now.lines i c.args.set.0 c.loop-line.greatest c.if-line-set.greatest within
          (rw line at w.if-line-set.true) c.loop-line.invariant (w.greatest-is ∙ rw line at w.max-greatest.ensures)
      | else-line-set w ↦ w.greatest-is ∙ known-without rules c.args.self.now.lines i c.args.set.0 c.loop-line.greatest within
          (rw line at w.if-line-set.false) c.loop-line.invariant
    ]
