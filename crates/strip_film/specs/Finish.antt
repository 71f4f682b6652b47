-- The cost of finishing: what is paid to shoot the scenes of a set in the order of a list.
use Rattle.std.specs.Prelude.{◌≡◌, ℕ, ◌+◌, ◌≤◌, true, List, [], ◌∷◌}
use Rattle.strip_mask.specs.Set.{has, without}
use Rattle.strip_model.specs.Film.{FilmData}
use Rattle.strip_film.specs.Shoot.{ready, step_cost}

-- each scene of the list was among the firsts of what remained when it was shot
abbrev pub AreFirsts : (ℕ → ℕ) → ℕ → List ℕ → Type 0
AreFirsts firsts set [] = Unit {0}
AreFirsts firsts set (scene ∷ scenes) = (has (firsts set) scene ≡ true) × AreFirsts firsts (without set scene) scenes

-- each scene of the list remained and was ready when it was shot
abbrev pub Remained : FilmData → ℕ → List ℕ → Type 0
Remained film set scenes = AreFirsts (ready film) set scenes

-- what remains after the scenes of the list
abbrev pub rest_after : ℕ → List ℕ → ℕ
rest_after set [] = set
rest_after set (scene ∷ scenes) = rest_after (without set scene) scenes

-- the list has each scene of the set once, each ready when it was shot
abbrev pub EachOnce : FilmData → ℕ → List ℕ → Type 0
EachOnce film set scenes = Remained film set scenes × (rest_after set scenes ≡ 0)

-- the tail of a list: the sum of the steps along it, while the set remains at its start
abbrev pub steps_cost : FilmData → ℕ → List ℕ → ℕ
steps_cost film set [] = 0
steps_cost film set (scene ∷ scenes) = step_cost film set scene + steps_cost film (without set scene) scenes

-- the number is at most the cost of finishing: at most the tail of every list that has each scene of the set once
abbrev pub IsAtMostFinish : FilmData → ℕ → ℕ → Type 0
IsAtMostFinish film set cost = (scenes : List ℕ) → EachOnce film set scenes → cost ≤ steps_cost film set scenes

-- the cost of finishing a set: some list has this tail, and none has less
pub record IsFinish (film : FilmData) (set cost : ℕ) : Type 0 where
  pub attained : (scenes : List ℕ) × EachOnce film set scenes × (steps_cost film set scenes ≡ cost)
  pub least : IsAtMostFinish film set cost

-- the scene begins a list with the least tail of the set
abbrev pub BeginsLeast : FilmData → ℕ → ℕ → Type 0
BeginsLeast film set scene =
    (later : List ℕ) × EachOnce film set (scene ∷ later) × IsAtMostFinish film set (steps_cost film set (scene ∷ later))
