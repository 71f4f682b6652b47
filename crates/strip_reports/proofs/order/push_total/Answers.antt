use Rattle.std.proofs.Common.{◌≡◌, ℕ, ◌-◌, [], ◌∷◌, ◌++◌, true, length, map, min, codes, refl, sym, ap, ◌∙◌, arith}
use Rattle.std.specs.List.{range_with_len}
use Rattle.std.proofs.lemmas.List.{map-append}
use Rattle.std.proofs.lemmas.Result.{on_ok_weaker}
use Rattle.strip_model.proofs.Counts.{length-order}
use Rattle.strip_reports.specs.Board.{is_last, order_total}
use Rattle.strip_reports.specs.Cells.{cell_data}
use Rattle.strip_reports.specs.Html.{Cells, Empty, Number, Word, row_text}
use Rattle.strip_reports.proofs.Columns.{cell_next, total_made}
use Rattle.strip_reports.proofs.order.push_total.Goals as goal

pub days_of-requires-clause-short : goal.days_of-requires-clause-short
days_of-requires-clause-short c =
    omega (arith, length-order (length c.args.inst.now.scenes) c.args.order.now c.requires.order, c.keeps_limits.ensures.scene_count.1)

pub loop-column-preserved : goal.loop-column-preserved
loop-column-preserved c =
    cell_next (λ actor. Empty) (map cell_data c.extend_from_slice.new.self.items) c.loop-column.cells.items _ _
    c.args.start c.loop-column._column c.in_ok-push.ensures.items c.loop-column.invariant refl

pub returns : goal.returns
returns c =
    let page = c.args.page.now.items in
    let actors = length c.args.inst.now.actors in
    let ahead = λ (days : ℕ). Empty ∷ Word (codes "Total") ∷ Number days ∷ Empty ∷ Empty ∷ [] in
    let blanks = λ (count : ℕ). map (λ actor. Empty) (range_with_len c.args.start count) in
    let behind = λ (pay : ℕ). Empty ∷ Empty ∷ Number pay ∷ [] in
    let begun : map cell_data c.extend_from_slice.new.self.items ≡ ahead c.days_of.result
    = rw c.new-cells.ensures.items at (ap (map cell_data) c.in_ok-extend_from_slice.ensures.items) in
    let all : c.loop-column._column ≡ min 24 (actors - c.args.start) = omega arith in
    let made = ap (map cell_data) (c.deref.ensures.value ∙ c.in_ok-extend_from_slice-2.ensures.items) ∙ map-append cell_data c.loop-column.cells.items _
    ∙ ap (λ cells. cells ++ behind c.pay_of.result) c.loop-column.invariant
    ∙ (λ i. (begun ∙ ap ahead c.days_of.ensures.days) i ++ blanks (all i) ++ behind (c.pay_of.ensures i)) in
    let last : is_last actors c.args.start ≡ true = sym c.is_last.ensures ∙ c.if-not-is_last.false in
    on_ok_weaker c.push_row.result
    (λ written. written ∙ ap (λ (cells : Cells). page ++ row_text cells) made
    ∙ ap (λ text. page ++ text) (total_made (is_last actors c.args.start) (order_total c.args.inst.now c.args.order.now c.args.start) last))
    c.push_row.ensures
