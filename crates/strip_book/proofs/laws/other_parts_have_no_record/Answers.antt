use Rattle.strip_book.proofs.Counted.{none_at}
use Rattle.strip_book.proofs.laws.other_parts_have_no_record.Goals as goal

pub returns : goal.returns
returns c = λ entries part none. none_at part entries none
