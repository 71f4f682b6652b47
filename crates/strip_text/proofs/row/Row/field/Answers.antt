use Rattle.std.proofs.Common.{◌∙◌, sym, ap}
use Rattle.csv.specs.Records.{fields_of}
use Rattle.strip_text.specs.Rows.{field_of}
use Rattle.strip_text.proofs.Digits.{trimmed_at, nothing_past}
use Rattle.strip_text.proofs.row.Row.field.Goals as goal

pub returns-in-Some : goal.returns-in-Some
returns-in-Some c =
    c.trimmed.ensures ∙ sym (trimmed_at (fields_of c.self.inside.record) c.args.place _ c.in-Some.ensures.value)
    ∙ ap (λ row. field_of row c.args.place) c.self.view_is

pub returns-in-None : goal.returns-in-None
returns-in-None c =
    sym (nothing_past (fields_of c.self.inside.record) c.args.place c.in-None.ensures.value) ∙ ap (λ row. field_of row c.args.place) c.self.view_is
