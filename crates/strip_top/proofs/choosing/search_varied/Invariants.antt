use Rattle.strip_top.proofs.choosing.search_varied.Given as goal

-- the bounds are those of this film
abbrev pub ghosts-search_varied_by_tables : goal.ghosts-search_varied_by_tables
ghosts-search_varied_by_tables g a = record { film = a.film.now; kind = a.setup.now.options.kind }
