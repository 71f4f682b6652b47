use Rattle.strip_book.specs.Pass.{table_of}
use Rattle.test_workers.proofs.hubs.shared.Given as goal

abbrev pub ghosts-share : goal.ghosts-share
ghosts-share g a = record { table = table_of a.book.now }
