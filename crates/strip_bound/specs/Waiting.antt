-- What a group of actors is paid for waiting along a list.
use Rattle.std.specs.Prelude.{◌≡◌, ℕ, ◌+◌, ◌*◌, true, List, [], ◌∷◌, slice_index}
use Rattle.std.specs.List.{AllPairs}
use Rattle.std.specs.Prelude.{All}
use Rattle.strip_mask.specs.Set.{has, meet, minus, sum_over, without}
use Rattle.strip_model.specs.Film.{FilmData}
use Rattle.strip_film.specs.Shoot.{cast_of, on_location}
use Rattle.strip_film.specs.Finish.{AreFirsts, rest_after}

-- the days of each scene at the hold rates of those of the group who still have a scene to come and don't work in
-- this one
abbrev pub wait_pay : FilmData → ℕ → ℕ → List ℕ → ℕ
wait_pay film group set [] = 0
wait_pay film group set (scene ∷ scenes) =
    slice_index film.days scene * sum_over film.holds
    (minus (meet group (cast_of film set)) (slice_index film.casts scene))
    + wait_pay film group (without set scene) scenes

-- the list has each scene of the set once, ready when it was shot or not
abbrev pub HasEach : ℕ → List ℕ → Type 0
HasEach set scenes = AreFirsts (λ q. q) set scenes × (rest_after set scenes ≡ 0)

-- groups of actors who are on location, no actor in two of them
pub record AreGroups (film : FilmData) (set : ℕ) (groups : List ℕ) : Type 0 where
  pub located : All (λ group. (actor : ℕ) → has group actor ≡ true → has (on_location film set) actor ≡ true) groups
  pub apart : AllPairs (λ a b. (actor : ℕ) → has a actor ≡ true → ¬ (has b actor ≡ true)) groups
