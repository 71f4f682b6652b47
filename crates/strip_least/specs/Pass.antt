-- Passes, and what their calls make of them.
use Rattle.std.specs.Prelude.{◌≡◌, ℕ, ◌<◌, nat_lt, if◌then◌else◌, Option, Some, None, []}
use Rattle.atomic_table.specs.Seated.{TableId}
use Rattle.strip_model.specs.Film.{FilmData}
use Rattle.strip_film.specs.Path.{PathData, IsComplete}
use Rattle.strip_film.specs.Shown.{path_data}
use Rattle.strip_least.specs.declared.least.Least.{Least}
use Rattle.strip_least.specs.declared.pass.LeastPass.{LeastPass}
use Rattle.strip_least.specs.declared.view.View.{View}
use Rattle.strip_least.specs.Rule.{first_view}
use Rattle.strip_least.specs.Steps.{IsClaimed, IsEnded}

-- what the pass knows
abbrev pub known : LeastPass → View
known pass = pass.seat.me.0

-- which words these are
abbrev pub table_of : Least → TableId
table_of least = least.table.shared.table_id

-- the film of the search
abbrev pub least_film : Least → FilmData
least_film least = least.table.shared.key.film

-- the best path that the pass offered, began with, or has from another
abbrev pub best_path : LeastPass → PathData
best_path pass = path_data pass.best

-- the cheaper of two paths, the first where they cost the same
abbrev pub cheaper : PathData → PathData → PathData
cheaper path other = if nat_lt other.paid path.paid then other else path

-- the pass steps on these words, goes by their film and parts, has weight, and its best path is complete
pub record IsPassOf (least : Least) (pass : LeastPass) : Type 0 where
  pub table : pass.seat.table_id ≡ table_of least
  pub film : (known pass).film ≡ least_film least
  pub parts : (known pass).parts ≡ least.parts
  pub no_slots : pass.seat.me.1 ≡ []
  pub some_weight : 0 < (known pass).weight
  pub complete : IsComplete (known pass).film (best_path pass)

-- a claim: it gives a part, or none is left
abbrev pub Claims : View → Option ℕ → View → Type 0
Claims before (Some part) after = IsClaimed before part after
Claims before None after = IsEnded before after

-- the words are new, and this is their one pass
pub record IsFirst (film : FilmData) (start : PathData) (count : ℕ) (least : Least) (pass : LeastPass) : Type 0 where
  pub pass_of : IsPassOf least pass
  pub knows : known pass ≡ first_view (record { film = film; start = start.paid; parts = count })
  pub best : best_path pass ≡ start
