use Rattle.test_bounds.proofs.small.kept.Given as goal

-- the bounds are those of this film
abbrev pub ghosts-bound_of : goal.ghosts-bound_of
ghosts-bound_of a = record { film = a.film.now; kind = a.kind }
