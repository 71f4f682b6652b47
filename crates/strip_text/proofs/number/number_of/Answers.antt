use Rattle.std.proofs.Common.{◌∙◌, sym}
use Rattle.strip_text.proofs.Digits.{digits_are_text, not_number}
use Rattle.strip_text.proofs.number.number_of.Goals as goal

pub returns-in_default : goal.returns-in_default
returns-in_default c = absurd (c.in_default.ensures.cases.0 (digits_are_text c.args.field.now (sym c.are_digits.ensures ∙ c.if-not-are_digits.false)))

pub returns-in_default-parse : goal.returns-in_default-parse
returns-in_default-parse c =
    let parsed = rw c.in-Ok.ensures.cases.0 at c.in_default-parse.ensures.value.0 in
    not_number c.args.field.now c.args.least c.args.most c.in_default-parse.field-0 c.ranges.most.fits (sym c.are_digits.ensures ∙ c.if-not-are_digits.false) parsed
