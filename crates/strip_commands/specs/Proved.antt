-- What a run proves that solved a film.
use Rattle.std.specs.Prelude.{◌≡◌, ◌≤◌, ◌⊎◌, ℕ, List, ◌++◌, Some, Ok}
use Rattle.strip_model.specs.Order.{IsKeptOrder}
use Rattle.strip_model.specs.Pay.{IsBestOrder, IsLeast, pay_of}
use Rattle.strip_model.specs.Data.{InstanceData}
use Rattle.strip_model.specs.FilmOf.{film_of}
use Rattle.strip_words.specs.Solve.{NameSolve, SolveData}
use Rattle.strip_proof.specs.Plan.{PlanData}
use Rattle.strip_solve.specs.Own.{own_order}
use Rattle.strip_answer.specs.Run.{RunData}
use Rattle.strip_answer.specs.Said.{film_said}
use Rattle.strip_commands.specs.Plan.{text_of}

-- the text of the job's file says an instance, and what was printed is the text of a plan of it: no order that
-- keeps the pairs pays less than the plan's bound; the order that it prints keeps them, and pays no more than the order of
-- the file's rows if that keeps them; and at the status 0 the printed order is a cheapest one, which pays the bound
pub record IsSolvedFilm (job : SolveData) (text printed : List ℕ) (code : ℕ) : Type 0 where
  pub inst : InstanceData
  pub says : film_said text ≡ Ok inst
  pub plan : PlanData
  pub shown : printed ≡ text_of job.proof inst plan
  pub least : IsLeast (film_of inst) plan.bound
  pub kept : IsKeptOrder (film_of inst) plan.order
  pub own : IsKeptOrder (film_of inst) (own_order (film_of inst))
      → pay_of (film_of inst) plan.order ≤ pay_of (film_of inst) (own_order (film_of inst))
  pub best : code ≡ 0 → IsBestOrder (film_of inst) plan.order plan.bound

-- where the words name a job to solve a film, its file tells a text and the sink what it takes, and the status is 0
-- or 3, the sink took such a text behind what it had taken before
abbrev pub IsBoardProved : RunData → ℕ → Type 0
IsBoardProved run code =
    (job : SolveData) (text taken : List ℕ) → NameSolve run.words job → run.files_before.bytes job.file ≡ Some text
    → run.sink_before.taken ≡ Some taken → (code ≡ 0) ⊎ (code ≡ 3)
    → (printed : List ℕ) × (run.sink_after.taken ≡ Some (taken ++ printed)) × IsSolvedFilm job text printed code
