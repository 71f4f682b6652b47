use Rattle.std.proofs.Common.{◌∷◌, true≢false, refl, sym, ap, ◌∙◌}
use Rattle.strip_words.specs.Shown.{command_data, texts}
use Rattle.strip_words.proofs.Results.{if_err}
use Rattle.strip_words.proofs.Names.{names_from, not_apart, not_cut}
use Rattle.strip_words.proofs.reader.first_item.Goals as goal

pub returns-in_err-value-clause-bad : goal.returns-in_err-value-clause-bad
returns-in_err-value-clause-bad c = if_err c.from_residual.result _ (λ e.
    let command = command_data c.args.command.now in
    not_apart command (names_from command c.requires) c.args.word.now (texts c.args.later.now)
    (λ operand. true≢false (sym (c.is_operand.ensures.1 operand) ∙ c.if-is_operand.false))
    (λ flag. true≢false (sym (c.has_flag.ensures.1 flag) ∙ c.if-has_flag.false))
    (c.has_valued.ensures.0 c.if-has_valued.true) c.in_err-value.ensures.bad)

pub returns-in_err-name-clause-bad : goal.returns-in_err-name-clause-bad
returns-in_err-name-clause-bad c = if_err c.from_residual-in_err-name.result _ (λ e.
    not_cut (command_data c.args.command.now) c.args.word.now (texts c.args.later.now)
    (λ operand. true≢false (sym (c.is_operand.ensures.1 operand) ∙ c.if-is_operand.false))
    (λ flag. true≢false (sym (c.has_flag.ensures.1 flag) ∙ c.if-has_flag.false))
    (λ valued. true≢false (sym (c.has_valued.ensures.1 valued) ∙ c.if-has_valued.false)) c.in_err-name.ensures.bad)

pub returns-then-has_flag-clause-ok : goal.returns-then-has_flag-clause-ok
returns-then-has_flag-clause-ok c = record { begins = refl; belongs = c.has_flag.ensures.0 c.if-has_flag.true }

pub returns-in_ok-value-clause-ok : goal.returns-in_ok-value-clause-ok
returns-in_ok-value-clause-ok c = record {
  begins = ap (λ ws. c.args.word.now ∷ ws) c.in_ok-value.ensures.ok.0;
  belongs = (c.has_valued.ensures.0 c.if-has_valued.true, c.in_ok-value.ensures.ok.1);
}
