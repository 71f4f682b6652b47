use Rattle.std.proofs.Common.{map}
use Rattle.strip_text.proofs.Flexible.{appended, row_written}
use Rattle.strip_text.proofs.text.write_row.Goals as goal

pub returns-clause-text : goal.returns-clause-text
returns-clause-text c =
    appended _ _ c.write_fields.result c.map_err.result c.map_err.ensures.cases c.map_err.ensures.variant
    (row_written c.args.writer.now c.write_fields.new.self (map (λ field. field.now) c.args.fields.now) c.write_fields.result c.requires c.write_fields.ensures.bytes)
