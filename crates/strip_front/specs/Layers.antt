-- The layers of a search: for each set that can remain after so many scenes, a path that leaves it. The tasks are the
-- last one.
use Rattle.std.specs.Prelude.{ℕ, zero, suc, ◌≤◌, List, [], ◌∷◌, fold}
use Rattle.std.specs.List.{AllPairs, flat_map}
use Rattle.std.specs.List.Sorted.{IsPermutation, IsStableByKey}
use Rattle.std.specs.Ordering.{nat_cmp}
use Rattle.strip_model.specs.Film.{FilmData}
use Rattle.strip_film.specs.Path.{PathData}
use Rattle.strip_film.specs.Rules.{Rules}
use Rattle.strip_lines.specs.Paths.{path_along}
use Rattle.strip_paths.specs.Paths.{paths_after, with_path}

-- the paths of so many scenes: of those that go on from the layer before, for each set that can remain the first one
-- that paid the least
abbrev pub layer : FilmData → ℕ → List PathData
layer film zero = path_along film [] ∷ []
layer film (suc depth) = fold with_path [] (flat_map (paths_after film) (layer film depth))

-- what a path promises, by what it paid and what remains
abbrev pub promise_of : Rules → PathData → ℕ
promise_of rules path = rules.promise path.paid path.rest

-- the tasks of so many scenes: the paths of that layer by rising promise, equals in the order in which they arise
pub record AreTasksOf (rules : Rules) (depth : ℕ) (tasks : List PathData) : Type 0 where
  pub same : IsPermutation (layer rules.film depth) tasks
  pub rise : AllPairs (λ a b. promise_of rules a ≤ promise_of rules b) tasks
  pub equal : IsStableByKey (promise_of rules) nat_cmp (layer rules.film depth) tasks
