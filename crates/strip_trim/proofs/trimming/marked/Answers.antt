use Rattle.std.proofs.Common.{◌≡◌, ◌∙◌, ◌++◌, ◌∷◌, [], refl, Vec, Global, ap, arith}
use Rattle.strip_film.specs.declared.shared.Line.{Line}
use Rattle.strip_lines.specs.Lines.{line_at}
use Rattle.strip_trim.proofs.Places.{below_left, below_taken, marked_below, none_below}
use Rattle.strip_trim.proofs.trimming.marked.Goals as goal
use Rattle.strip_trim.proofs.trimming.marked.Goals.{then-marks-place+in_ok-push, else-marks-place}

pub loop-place-init : goal.loop-place-init
loop-place-init c = c.new-kept.ensures.items ∙ none_below c.args.lines.now c.args.marks.now

pub loop-place-preserved : goal.loop-place-preserved
loop-place-preserved c = elim c.if-marks-place.branch [
  | then-marks-place+in_ok-push w ↦ (
      let pushed : c.if-marks-place.kept.items ≡ c.loop-place.kept.items ++ line_at c.args.lines.now c.loop-place.place ∷ []
      = ap (λ (v : Vec Line Global). v.items) w.kept-is ∙ w.in_ok-push.ensures.items in
      pushed ∙ ((λ i. c.loop-place.invariant i ++ line_at c.args.lines.now c.loop-place.place ∷ [])
      ∙ below_taken c.args.lines.now c.args.marks.now c.loop-place.place (line_at c.args.lines.now c.loop-place.place) w.if-marks-place.true refl))
  | else-marks-place w ↦ (
      ap (λ (v : Vec Line Global). v.items) w.kept-is ∙ (c.loop-place.invariant ∙ below_left c.args.lines.now c.args.marks.now c.loop-place.place w.if-marks-place.false))
]

pub returns : goal.returns
returns c =
    let end : c.loop-place.place ≡ _ = omega (arith, c.loop-place-test.false, c.loop-place.auto.place-end, c.requires) in
    c.loop-place.invariant ∙ ap (marked_below c.args.lines.now c.args.marks.now) end
