use Rattle.std.proofs.Common.{◌++◌, ◌∷◌, [], option_map, append-nil, take, sym, ap, ◌∙◌}
use Rattle.std.specs.List.{cons_option, filter_map}
use Rattle.strip_words.specs.Words.{operand_of}
use Rattle.strip_words.specs.Shown.{strs, items_data}
use Rattle.strip_words.proofs.Shows.{operands_more, strs_more}
use Rattle.strip_words.proofs.reader.operands_in.Goals as goal
use Rattle.strip_words.proofs.reader.operands_in.Goals.{in-Some+in_ok-push, in_default}

pub loop-item-preserved : goal.loop-item-preserved
loop-item-preserved c =
    let items = c.args.items.now in
    let before = filter_map operand_of (items_data (take c.loop-item.item-index items)) in
    let more = operands_more items c.loop-item.item-index _ c.operand.result c.loop-item-test.true c.operand.ensures in
    elim c.match-operand.branch [
      | in-Some+in_ok-push w ↦
          ap (λ operands. strs operands.items) w.operands-is ∙ strs_more c.loop-item.operands.items w.push.new.self.items w.in-Some.word w.in_ok-push.ensures.items
          ∙ ap (λ ws. ws ++ w.in-Some.word.now ∷ []) c.loop-item.invariant ∙ sym (more ∙ ap (λ r. before ++ cons_option (option_map (λ word. word.now) r) []) w.in-Some.is)
      | in_default w ↦
          ap (λ operands. strs operands.items) w.operands-is ∙ c.loop-item.invariant
          ∙ sym (more ∙ ap (λ r. before ++ cons_option (option_map (λ word. word.now) r) []) w.in_default.is ∙ append-nil before)
    ]
