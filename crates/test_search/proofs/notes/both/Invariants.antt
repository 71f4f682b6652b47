use Rattle.test_search.proofs.notes.both.Given as goal

-- the bounds are those of this film
abbrev pub ghosts-both_by : goal.ghosts-both_by
ghosts-both_by a = record { film = a.film.now; kind = a.kind }
