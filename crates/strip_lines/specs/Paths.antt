-- The paths of a film with something remaining, and how many of them pass a test.
use Rattle.std.specs.Prelude.{◌≢◌, ℕ, zero, suc, ◌+◌, ◌*◌, ◌==◌, nat_lt, Bool, true, false, not, ◌&&◌, ◌||◌, Option, Some, None, List, [], ◌∷◌, length, map, count_by, ⊤}
use Rattle.std.specs.List.{flat_map}
use Rattle.strip_mask.specs.Set.{has, without, members}
use Rattle.strip_model.specs.Film.{FilmData}
use Rattle.strip_film.specs.Film.{all_scenes}
use Rattle.strip_film.specs.Shoot.{ready}
use Rattle.strip_film.specs.Finish.{rest_after, steps_cost}
use Rattle.strip_film.specs.Path.{PathData, IsPath}
use Rattle.strip_film.specs.Rules.{Rules, rank}
use Rattle.strip_film.specs.Ranks.{IsEarlier}

-- the path is one of the film, and something remains
abbrev pub IsUnfinished : FilmData → PathData → Type 0
IsUnfinished film path = IsPath film path × (path.rest ≢ 0)

-- the lists of scenes that can be shot while a set of n scenes remains, each ready in its turn, and leave something
-- of it
abbrev pub lists_from : FilmData → ℕ → ℕ → List (List ℕ)
lists_from film zero set = []
lists_from film (suc n) set =
    [] ∷ flat_map (λ scene. map (λ later. scene ∷ later) (lists_from film n (without set scene))) (members (ready film set))

-- the path along a list of scenes
abbrev pub path_along : FilmData → List ℕ → PathData
path_along film scenes = record {
  scenes = scenes;
  rest = rest_after (all_scenes film) scenes;
  paid = steps_cost film (all_scenes film) scenes;
}

-- how many paths of the film with something remaining pass a test
abbrev pub number_of : FilmData → (PathData → Bool) → ℕ
number_of film test =
    count_by (λ scenes. test (path_along film scenes)) (lists_from film (length film.casts) (all_scenes film))

-- how many paths with something remaining a film of n scenes has at most
abbrev pub path_count : ℕ → ℕ
path_count zero = 0
path_count (suc n) = 1 + suc n * path_count n

abbrev pub factorial : ℕ → ℕ
factorial zero = 1
factorial (suc n) = suc n * factorial n

-- each scene of the list is among the firsts of what remains in its turn
abbrev pub are_firsts : (ℕ → ℕ) → ℕ → List ℕ → Bool
are_firsts firsts set [] = true
are_firsts firsts set (scene ∷ scenes) = has (firsts set) scene && are_firsts firsts (without set scene) scenes

-- an open path whose paid with the static bound of what remains is below a cost
abbrev pub is_candidate : Rules → ℕ → PathData → Bool
is_candidate rules cost path =
    are_firsts rules.firsts (all_scenes rules.film) path.scenes && nat_lt (path.paid + rules.bound path.rest) cost

-- what remains after the path is the set, and it passes the test
abbrev pub leaving : ℕ → (PathData → Bool) → PathData → Bool
leaving set test path = path.rest == set && test path

-- how many candidates there are, and how many with this set remaining
abbrev pub candidate_count : Rules → ℕ → ℕ
candidate_count rules cost = number_of rules.film (is_candidate rules cost)

abbrev pub leaving_count : Rules → ℕ → ℕ → ℕ
leaving_count rules cost set = number_of rules.film (leaving set (is_candidate rules cost))

-- the first scene goes before the second: its rank is less, or the ranks are equal and its number is less
abbrev pub is_sooner : (ℕ → ℕ) → ℕ → ℕ → Bool
is_sooner ranks scene other = nat_lt (ranks scene) (ranks other) || (ranks scene == ranks other && nat_lt scene other)

-- the first list comes before the second, both shot from a set: it ends where the other goes on, or where the two
-- part its scene goes first among what then remains
abbrev pub is_earlier : Rules → ℕ → List ℕ → List ℕ → Bool
is_earlier rules set xs [] = false
is_earlier rules set [] (y ∷ ys) = true
is_earlier rules set (x ∷ xs) (y ∷ ys) = is_sooner (rank rules set) x y || (x == y && is_earlier rules (without set x) xs ys)

-- the path doesn't come after the last one, and passes the test; without a last one none does
abbrev pub up_to : Rules → Option PathData → (PathData → Bool) → PathData → Bool
up_to rules None test path = false
up_to rules (Some last) test path = not (is_earlier rules (all_scenes rules.film) last.scenes path.scenes) && test path

abbrev pub number_up_to : Rules → Option PathData → (PathData → Bool) → ℕ
number_up_to rules last test = number_of rules.film (up_to rules last test)

-- the path comes after the last one, if there is one
abbrev pub ComesAfter : Rules → Option PathData → PathData → Type 0
ComesAfter rules None path = ⊤
ComesAfter rules (Some last) path = IsEarlier rules (all_scenes rules.film) last.scenes path.scenes
