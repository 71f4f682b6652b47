-- What a search goes by, and doesn't change.
use Rattle.std.specs.Prelude.{ℕ, ◌≡◌, ◌≢◌, List, length, slice_index_or, All, ◌≤◌}
use Rattle.std.specs.List.{AllPairs}
use Rattle.strip_model.specs.declared.kind.Kind.{Kind}
use Rattle.strip_model.specs.Film.{FilmData}
use Rattle.strip_film.specs.Path.{PathData, IsPath}
use Rattle.strip_film.specs.Rules.{Rules}
use Rattle.strip_lines.specs.Lines.{rules_of}
use Rattle.strip_lines.specs.Parts.{no_task}

-- the film, the kind of the static bounds, the most lines there may be, what the order that the search starts with
-- costs, and its tasks
pub record SearchData : Type 0 where
  pub film : FilmData
  pub kind : Kind
  pub nodes : ℕ
  pub start : ℕ
  pub tasks : List PathData

abbrev pub search_rules : SearchData → Rules
search_rules search = rules_of search.kind search.film

-- it is one over this film, with static bounds of this kind
abbrev pub GoesBy : Kind → FilmData → SearchData → Type 0
GoesBy kind film search = (search.film ≡ film) × (search.kind ≡ kind)

-- how many scenes a task has: as many as the first of them
abbrev pub depth_of : SearchData → ℕ
depth_of search = length (slice_index_or search.tasks 0 no_task).scenes

-- the tasks are paths of the film, each of as many scenes, and what remains after two of them differs; and they are
-- no more than ways to choose four of 64 scenes, one after the other
pub record AreStarts (search : SearchData) : Type 0 where
  pub paths : All (IsPath search.film) search.tasks
  pub long : All (λ task. length task.scenes ≡ depth_of search) search.tasks
  pub apart : AllPairs (λ a b. a.rest ≢ b.rest) search.tasks
  pub few : length search.tasks ≤ 16777216
