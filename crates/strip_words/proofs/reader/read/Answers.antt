use Rattle.std.proofs.Common.{arith, true≢false, length, ◌≡◌, ◌∷◌, ◌≢◌, [], All, refl, sym, ap, ◌∙◌, subst}
use Rattle.std.proofs.lemmas.List.{length-map}
use Rattle.strip_words.specs.Words.{IsSpelled, AreDistinct, options_in, operands_of}
use Rattle.strip_words.specs.Shown.{texts, strs, command_data, items_data, rest_data}
use Rattle.strip_words.proofs.Results.{err_from}
use Rattle.strip_words.proofs.Names.{names_from}
use Rattle.strip_words.proofs.Spelled.{spells_from, spells_once}
use Rattle.strip_words.proofs.reader.read.Goals as goal
use Rattle.strip_words.proofs.reader.read.Goals.{else-len-command-via-then-len-command+then-are_filled+else-are_distinct, else-len-command-via-then-len-command+else-are_filled, else-len-command-via-else-len-command}

pub returns-in_err-reading-clause-bad : goal.returns-in_err-reading-clause-bad
returns-in_err-reading-clause-bad c = err_from c.from_residual.result _ _ c.from_residual.ensures.1 (λ e given is items rest spelled.
    let later = texts c.args.later.now in
    c.in_err-reading.ensures.bad (sym given ∙ is) items rest (spells_from (command_data c.args.command.now) (c.args.command.now.word.now ∷ texts c.args.later.now) later items rest refl spelled))

pub returns-then-are_distinct-clause-ok : goal.returns-then-are_distinct-clause-ok
returns-then-are_distinct-clause-ok c =
    let later = texts c.args.later.now in
    let reading = c.in_ok-reading.reading in
    let operands : strs c.in_ok-operands.operands.items ≡ operands_of (items_data reading.items.items) (rest_data reading.rest) = c.in_ok-operands.ensures in
    record {
      spelled = ap (λ ws. c.args.command.now.word.now ∷ ws) c.in_ok-reading.ensures.ok.spelled;
      belong = c.in_ok-reading.ensures.ok.belong;
      once = subst (λ items. AreDistinct (options_in (items_data items))) c.as_slice-then-are_filled.ensures.value (c.are_distinct.ensures.0 c.if-are_distinct.true);
      count = ap length (sym operands) ∙ length-map c.in_ok-operands.operands.items (λ word. word.now) ∙ omega (arith, c.in_ok-operands.operands.ok.0, c.len.ensures, c.if-len-command.true);
      filled = subst (All (λ word. word ≢ [])) (ap strs c.as_slice.ensures.value ∙ operands) (c.are_filled.ensures.0 c.if-are_filled.true);
    }

pub returns-clause-bad : goal.returns-clause-bad
returns-clause-bad c = λ bad items rest spelled.
    let command = command_data c.args.command.now in
    let later = texts c.args.later.now in
    let reading = c.in_ok-reading.reading in
    let once = spells_once command (names_from command c.requires) later items (items_data reading.items.items) rest (rest_data reading.rest)
    (spells_from command (c.args.command.now.word.now ∷ texts c.args.later.now) later items rest refl spelled) c.in_ok-reading.ensures.ok in
    let here : IsSpelled command (c.args.command.now.word.now ∷ texts c.args.later.now) (items_data reading.items.items) (rest_data reading.rest)
    = subst (λ r. IsSpelled command (c.args.command.now.word.now ∷ texts c.args.later.now) (items_data reading.items.items) r) once.1 (subst (λ items. IsSpelled command (c.args.command.now.word.now ∷ texts c.args.later.now) items rest) once.0 spelled) in
    let operands : strs c.in_ok-operands.operands.items ≡ operands_of (items_data reading.items.items) (rest_data reading.rest) = c.in_ok-operands.ensures in
    elim c.else-len-command.branch [
      | else-len-command-via-then-len-command+then-are_filled+else-are_distinct w ↦
          true≢false (sym (w.are_distinct.ensures.1 (subst (λ items. AreDistinct (options_in (items_data items))) (sym w.as_slice-then-are_filled.ensures.value) here.once)) ∙ w.if-are_distinct.false)
      | else-len-command-via-then-len-command+else-are_filled w ↦
          true≢false (sym (w.are_filled.ensures.1 (subst (All (λ word. word ≢ [])) (sym (ap strs w.as_slice.ensures.value ∙ operands)) here.filled)) ∙ w.if-are_filled.false)
      | else-len-command-via-else-len-command w ↦
          w.if-len-command.false (omega (arith, c.in_ok-operands.operands.ok.0, c.len.ensures, length-map c.in_ok-operands.operands.items (λ word. word.now), ap length operands, here.count))
    ]
