-- Films and lines that were worked by hand.
use Rattle.std.specs.Prelude.{List, [], ◌∷◌}
use Rattle.strip_model.specs.Film.{FilmData}
use Rattle.strip_film.specs.Film.{film_data}
use Rattle.strip_film.specs.declared.shared.Line.{Line}

-- three scenes of two actors each, one day each
abbrev pub triangle : FilmData
triangle = film_data (3 ∷ 6 ∷ 5 ∷ []) (1 ∷ 1 ∷ 1 ∷ []) (1 ∷ 2 ∷ 3 ∷ []) (1 ∷ 2 ∷ 3 ∷ []) []

-- four scenes of two actors each, one day each, in a ring
abbrev pub ring : FilmData
ring = film_data (9 ∷ 3 ∷ 6 ∷ 12 ∷ []) (1 ∷ 1 ∷ 1 ∷ 1 ∷ []) (1 ∷ 2 ∷ 3 ∷ 4 ∷ []) (1 ∷ 2 ∷ 3 ∷ 4 ∷ []) []

-- by pairs: a lesser line of the whole set, and one of a set that it needn't
abbrev pub triangle_lines : List Line
triangle_lines = record { set = 7; bound = 12 } ∷ record { set = 6; bound = 10 } ∷ record { set = 7; bound = 13 } ∷ []

-- by plain bounds: each is needed
abbrev pub ring_lines : List Line
ring_lines =
    record { set = 15; bound = 22 } ∷ record { set = 14; bound = 17 } ∷ record { set = 13; bound = 19 } ∷ record { set = 11; bound = 17 }
    ∷ record { set = 7; bound = 17 } ∷ record { set = 6; bound = 9 } ∷ record { set = 9; bound = 13 } ∷ []
