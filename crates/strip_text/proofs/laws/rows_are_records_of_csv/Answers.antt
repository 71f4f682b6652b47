use Rattle.std.proofs.Common.{ap, map}
use Rattle.csv.specs.Reading.{strip_bom}
use Rattle.strip_text.specs.Field.{trimmed}
use Rattle.strip_text.proofs.Records.{records-alone}
use Rattle.strip_text.proofs.laws.rows_are_records_of_csv.Goals as goal

pub returns : goal.returns
returns c = λ text records are. ap (map (map trimmed)) (records-alone (strip_bom text) records are)
