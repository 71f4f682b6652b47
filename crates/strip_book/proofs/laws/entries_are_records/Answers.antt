use Rattle.strip_book.proofs.Counted.{record_is}
use Rattle.strip_book.proofs.laws.entries_are_records.Goals as goal

pub returns : goal.returns
returns c = record_is
