use Rattle.strip_book.proofs.Counted.{counted}
use Rattle.strip_book.proofs.laws.lines_of_entries_are_counted.Goals as goal

pub returns : goal.returns
returns c = λ search entries lines film each apart numbers sets. counted search film entries lines each apart numbers sets
