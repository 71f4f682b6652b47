-- The exchange rule: which scenes of a set needn't be shot first, since another makes up for it.
use Rattle.std.specs.Prelude.{ℕ, ◌==◌, nat_lt, Bool, not, ◌&&◌, ◌||◌, if◌then◌else◌, fold, slice_index}
use Rattle.std.specs.List.{list_any}
use Rattle.strip_mask.specs.Set.{has, with, union, minus, members}
use Rattle.strip_model.specs.Film.{FilmData}
use Rattle.strip_film.specs.Shoot.{on_location, ready}

-- every number of the first set is in the second
abbrev pub is_part : ℕ → ℕ → Bool
is_part a b = minus a b == 0

-- whoever is on location works in the first scene, and whoever works in it is on location or works in the second
abbrev pub fits_before : FilmData → ℕ → ℕ → ℕ → Bool
fits_before film set first second =
    is_part (on_location film set) (slice_index film.casts first)
    && is_part (slice_index film.casts first) (union (on_location film set) (slice_index film.casts second))

-- the first scene rules the second out as the one that is shot next: both are ready, and the first fits before the
-- second; where each fits before the other, the lesser rules out the greater
abbrev pub rules_out : FilmData → ℕ → ℕ → ℕ → Bool
rules_out film set first second =
    (has (ready film set) first && has (ready film set) second)
    && (not (first == second) && (fits_before film set first second && (not (fits_before film set second first) || nat_lt first second)))

-- some scene rules this one out
abbrev pub is_ruled_out : FilmData → ℕ → ℕ → Bool
is_ruled_out film set scene = list_any (λ first. rules_out film set first scene) (members (ready film set))

-- the open firsts of a set: its ready scenes that no scene rules out
abbrev pub open_firsts : FilmData → ℕ → ℕ
open_firsts film set = fold (λ found scene. if is_ruled_out film set scene then found else with found scene) 0
    (members (ready film set))
