use Rattle.test_bounds.proofs.stores.times_asked.Given as goal

-- the bounds are those of this film
abbrev pub ghosts-times_asked_of : goal.ghosts-times_asked_of
ghosts-times_asked_of g a = record { film = a.film.now; kind = a.kind }
