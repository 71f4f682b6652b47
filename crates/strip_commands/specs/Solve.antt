-- The command `solve`: what it asks for.
use Rattle.std.specs.Prelude.{ℕ, ◌<◌, ◌≤◌, List}
use Rattle.strip_model.specs.Data.{InstanceData}
use Rattle.strip_model.specs.FilmOf.{film_of}
use Rattle.strip_reduce.specs.Reduction.{class_count}
use Rattle.strip_words.specs.Solve.{SolveData}
use Rattle.strip_answer.specs.declared.status.Status.{Status}
use Rattle.strip_io.specs.Files.{FilesData}
use Rattle.strip_commands.specs.Film.{IsFilmDue, IsTooMany}
use Rattle.strip_commands.specs.Plan.{IsPlan}

-- the status and the text that are due for an instance: a plan of it, or that it has too many classes
pub record IsSolveAnswer (job : SolveData) (inst : InstanceData) (status : Status) (printed : List ℕ) : Type 0 where
  pub plan : class_count (film_of inst) ≤ 64 → IsPlan job inst status printed
  pub too_many : 64 < class_count (film_of inst) → IsTooMany inst status printed

-- what is due for the job
abbrev pub IsSolveDue : SolveData → FilesData → FilesData → Status → List ℕ → Type 0
IsSolveDue job before after status printed = IsFilmDue (IsSolveAnswer job) job.file before after status printed
