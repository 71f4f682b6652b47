use Rattle.std.proofs.Common.{◌≡◌, ℕ, ◌+◌, List, [], ◌∷◌, ◌++◌, if◌then◌else◌, length, map, ap, ◌∙◌, arith}
use Rattle.std.proofs.lemmas.Result.{on_ok_weaker}
use Rattle.strip_model.proofs.Counts.{length-order}
use Rattle.strip_model.specs.FilmOf.{film_of}
use Rattle.strip_reports.specs.declared.figures.Figures.{Figures}
use Rattle.strip_reports.specs.Board.{columns, is_last, mark_at}
use Rattle.strip_reports.specs.Cells.{cell_data}
use Rattle.strip_reports.specs.Html.{Cells, Name, Number, row_text}
use Rattle.strip_reports.proofs.order.push_scene.Goals as goal

pub figures_at-figures-requires-clause-short : goal.figures_at-figures-requires-clause-short
figures_at-figures-requires-clause-short c =
    omega (arith, length-order (length c.args.inst.now.scenes) c.args.order.now c.requires.order, c.keeps_limits.ensures.scene_count.1)

pub returns : goal.returns
returns c =
    let inst = c.args.inst.now in
    let place = c.args.place in
    let marks = map (mark_at (film_of inst) c.args.order.now place) (columns (length inst.actors) c.args.start) in
    let ahead = λ (figures : Figures) (name : List ℕ). Number (place + 1) ∷ Name name ∷ Number figures.days ∷ Number figures.first ∷ Number figures.last ∷ [] in
    let sums = λ (figures : Figures). if is_last (length inst.actors) c.args.start
    then Number figures.working ∷ Number figures.holding ∷ Number figures.pay ∷ [] else [] in
    let figures = c.figures_at-figures.result in
    let begun : map cell_data c.extend_from_slice.new.self.items ≡ ahead figures c.name_of.result.now
    = rw c.new-cells.ensures.items at (ap (map cell_data) c.in_ok-extend_from_slice.ensures.items) in
    let made = ap (map cell_data) c.deref.ensures.value ∙ c.in_ok-push_sums.ensures ∙ ap (λ cells. cells ++ sums figures) (c.in_ok-push_marks.ensures ∙ ap (λ cells. cells ++ marks) begun)
    ∙ (λ i. ahead (c.figures_at-figures.ensures.figures i) (c.name_of.ensures i) ++ marks ++ sums (c.figures_at-figures.ensures.figures i)) in
    on_ok_weaker c.push_row.result (λ written. written ∙ ap (λ (cells : Cells). c.args.page.now.items ++ row_text cells) made) c.push_row.ensures
