-- The film of nothing.
use Rattle.std.specs.Prelude.{[]}
use Rattle.strip_model.specs.Film.{FilmData}

abbrev pub no_film : FilmData
no_film = record { casts = []; days = []; rates = []; holds = []; pairs = [] }
