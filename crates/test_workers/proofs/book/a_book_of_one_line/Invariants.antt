use Rattle.strip_model.specs.declared.kind.Kind.TheVariants.{Pairs}
use Rattle.test_workers.proofs.book.a_book_of_one_line.Given as goal

-- the bounds are those of this film
abbrev pub ghosts-lines_by : goal.ghosts-lines_by
ghosts-lines_by o a = record { film = a.film.now; kind = Pairs }
