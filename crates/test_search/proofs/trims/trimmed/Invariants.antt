use Rattle.test_search.proofs.trims.trimmed.Given as goal

-- the bounds are those of this film
abbrev pub ghosts-trimmed_by : goal.ghosts-trimmed_by
ghosts-trimmed_by a = record { film = a.film.now; kind = a.kind }
