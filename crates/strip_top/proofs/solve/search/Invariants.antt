use Rattle.strip_top.proofs.solve.search.Given as goal

-- the bounds are those of this film
abbrev pub ghosts-search_by_tables : goal.ghosts-search_by_tables
ghosts-search_by_tables g a = record { film = a.film.now; kind = a.setup.now.options.kind }
