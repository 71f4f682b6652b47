-- The rule of the least cost and of the next part, which holds between any two steps of any passes.
use Rattle.std.specs.Prelude.{◌≡◌, ⊤, ℕ, ◌+◌, ◌<◌, ◌≤◌, ◌==◌, nat_lt, true, false, if◌then◌else◌, List, [], ◌∷◌, min, count_by}
use mathlib.Core.Option.{some}
use lib.ListN.{get_elem?}
use Rattle.atomic_table.specs.Table.{State}
use Rattle.strip_model.specs.Film.{FilmData}
use Rattle.strip_film.specs.Film.{IsFilm}
use Rattle.strip_film.specs.Path.{PathData, IsComplete}
use Rattle.strip_least.specs.declared.course.Course.{Course}
use Rattle.strip_least.specs.declared.view.View.{View}

-- how often the number stands in the list
abbrev pub times : ℕ → List ℕ → ℕ
times number numbers = count_by (λ other. other == number) numbers

-- once where the number is below the end, and else never
abbrev pub once_below : ℕ → ℕ → ℕ
once_below number end = if nat_lt number end then 1 else 0

-- what a number of each view adds up to
abbrev pub total : (View → ℕ) → List View → ℕ
total amount [] = 0
total amount (view ∷ views) = amount view + total amount views

-- the weight of the first pass, and so that of all passes together
abbrev pub full_weight : ℕ
full_weight = 4294967296

abbrev pub weight_of : View → ℕ
weight_of view = view.weight

-- the weight, where the pass has ended
abbrev pub ended_weight : View → ℕ
ended_weight view = if view.ended then view.weight else 0

-- some complete path of the film paid this
abbrev pub IsPaid : FilmData → ℕ → Type 0
IsPaid film cost = (path : PathData) × IsComplete film path × (path.paid ≡ cost)

-- the first pass: it was told what the start path paid, which is its best, and claimed nothing
abbrev pub first_view : Course → View
first_view course = record {
  weight = full_weight;
  ended = false;
  film = course.film;
  start = course.start;
  parts = course.parts;
  told = course.start;
  best = course.start;
  claims = [];
}

-- a view of this course, which was told no less than the least cost and has no better path; where it has ended, no
-- part is left
pub record Fits (course : Course) (least next : ℕ) (view : View) : Type 0 where
  pub film : view.film ≡ course.film
  pub start : view.start ≡ course.start
  pub parts : view.parts ≡ course.parts
  pub told : least ≤ view.told
  pub no_dearer : view.told ≤ view.start
  pub best : least ≤ view.best
  pub ended : view.ended ≡ true → course.parts ≤ next

-- some view with weight has a best path that paid the least cost
pub record HasBest (least : ℕ) (views : List View) : Type 0 where
  pub id : ℕ
  pub view : View
  pub here : get_elem? views id ≡ some view
  pub some_weight : 0 < view.weight
  pub best : view.best ≡ least

-- The words are the least cost, which some complete path paid and some pass has as its best, and the next part. The
-- claims of all passes together are the parts below the next one, each once. The next one exceeds the number of
-- parts by no more than the weight of those who found that none is left, so that it never comes near the limit of a
-- word
pub record IsKept (course : Course) (state : State ⊤ View) : Type 0 where
  pub least : ℕ
  pub next : ℕ
  pub words : state.words ≡ least ∷ next ∷ []
  pub film : IsFilm course.film
  pub paid : IsPaid course.film least
  pub fits : (id : ℕ) (view : View) → get_elem? state.views id ≡ some view → 0 < view.weight
      → Fits course least next view
  pub spent : (id : ℕ) (view : View) → get_elem? state.views id ≡ some view → view.weight ≡ 0 → view.claims ≡ []
  pub best : HasBest least state.views
  pub whole : total weight_of state.views ≡ full_weight
  pub claims : (part : ℕ) → total (λ view. times part view.claims) state.views ≡ once_below part (min next course.parts)
  pub few : next ≤ course.parts + total ended_weight state.views
  pub small : course.parts ≤ full_weight
