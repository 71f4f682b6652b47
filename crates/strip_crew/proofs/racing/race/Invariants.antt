use Rattle.strip_book.specs.Pass.{table_of}
use Rattle.strip_crew.proofs.racing.race.Given as goal

-- the locks guard the lines of this book
abbrev pub ghosts-in_race : goal.ghosts-in_race
ghosts-in_race g a = record { table = table_of a.opening.book }
