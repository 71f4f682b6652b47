use Rattle.test_search.proofs.worlds.passes.Given as goal

-- the bounds are those of this film
abbrev pub ghosts-passes_by : goal.ghosts-passes_by
ghosts-passes_by a = record { film = a.film.now; kind = a.kind }
