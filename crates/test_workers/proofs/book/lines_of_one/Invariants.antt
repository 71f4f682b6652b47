use Rattle.strip_book.specs.Pass.{table_of}
use Rattle.test_workers.proofs.book.lines_of_one.Given as goal

abbrev pub ghosts-is_found : goal.ghosts-is_found
ghosts-is_found g a = record { table = table_of a.book.now }
