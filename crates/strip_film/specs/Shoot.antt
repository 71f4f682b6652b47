-- The state of a shoot, when a set of scenes remains.
use Rattle.std.specs.Prelude.{ℕ, ◌+◌, ◌*◌, if◌then◌else◌, List, fold, slice_index}
use Rattle.strip_mask.specs.Set.{has, with, union, meet, minus, members, sum_over}
use Rattle.strip_model.specs.declared.pair.Pair.{Pair}
use Rattle.strip_model.specs.Film.{FilmData}
use Rattle.strip_film.specs.Film.{all_scenes}

-- who works in some scene of the set
abbrev pub cast_of : FilmData → ℕ → ℕ
cast_of film set = fold (λ cast scene. union cast (slice_index film.casts scene)) 0 (members set)

-- who is on location while the set remains: who works in it, and in some scene that was shot
abbrev pub on_location : FilmData → ℕ → ℕ
on_location film set = meet (cast_of film set) (cast_of film (minus (all_scenes film) set))

-- what it costs to shoot a scene next: its days, at the rates of its cast and the hold rates of who else is on location
abbrev pub step_cost : FilmData → ℕ → ℕ → ℕ
step_cost film set scene =
    slice_index film.days scene * (sum_over film.rates (slice_index film.casts scene)
    + sum_over film.holds (minus (on_location film set) (slice_index film.casts scene)))

-- the scenes that a pair puts behind a scene of the set
abbrev pub behind : List Pair → ℕ → ℕ
behind pairs set = fold (λ found pair. if has set pair.first then with found pair.then else found) 0 pairs

-- the scenes of the set that no pair puts behind another scene of the set
abbrev pub ready : FilmData → ℕ → ℕ
ready film set = minus set (behind film.pairs set)
