-- A command on one film's file: what is due for the instance that its text says, or that it is refused.
use Rattle.std.specs.Prelude.{◌≡◌, ◌⊎◌, ℕ, ◌<◌, ◌≤◌, List, Option, Some, Result, Ok, Err}
use Rattle.strip_model.specs.Data.{InstanceData}
use Rattle.strip_model.specs.FilmOf.{film_of}
use Rattle.strip_reduce.specs.Reduction.{class_count}
use Rattle.strip_text.specs.Told.{ToldData}
use Rattle.strip_answer.specs.declared.status.Status.{Status}
use Rattle.strip_answer.specs.declared.status.Status.TheVariants.{BadInstance}
use Rattle.strip_answer.specs.Rows.{error_row}
use Rattle.strip_io.specs.Files.{FilesData}
use Rattle.strip_answer.specs.Fit.{IsNoFilm}
use Rattle.strip_answer.specs.Input.{HasInput}
use Rattle.strip_answer.specs.Said.{IsRefusal, film_said, too_many_told}

-- the status and the text that are due for what a text says: those for an instance, or those that refuse the text
abbrev pub IsAnswerTo : (InstanceData → Status → List ℕ → Type 0) → Status → List ℕ → Result InstanceData (Option ToldData)
    → Type 0
IsAnswerTo Due status printed (Ok inst) = Due inst status printed
IsAnswerTo Due status printed (Err told) = IsRefusal BadInstance told status printed

-- what is due for the file, where this is due for an instance
abbrev pub IsFilmDue : (InstanceData → Status → List ℕ → Type 0) → List ℕ → FilesData → FilesData → Status → List ℕ → Type 0
IsFilmDue Due file before after status printed = HasInput file 1_048_576 before after
    (λ text. IsAnswerTo Due status printed (film_said text))

-- the row tells that the instance has too many classes
abbrev pub IsTooMany : InstanceData → Status → List ℕ → Type 0
IsTooMany inst status printed = (status ≡ BadInstance)
    × (printed ≡ error_row (too_many_told (class_count (film_of inst))))

-- the files tell an instance with this many classes
pub record HasClasses (IsCount : ℕ → Type 0) (file : List ℕ) (files : FilesData) : Type 0 where
  pub text : List ℕ
  pub told : files.bytes file ≡ Some text
  pub inst : InstanceData
  pub says : film_said text ≡ Ok inst
  pub count : IsCount (class_count (film_of inst))

-- the files tell an instance that has few enough classes, or a text that says none or one with too many
abbrev pub IsFilmFit : List ℕ → FilesData → Type 0
IsFilmFit file files = HasClasses (λ count. count ≤ 64) file files

abbrev pub IsFilmUnfit : List ℕ → FilesData → Status → Type 0
IsFilmUnfit file files why = (IsNoFilm file files ⊎ HasClasses (λ count. 64 < count) file files)
    × (why ≡ BadInstance)
