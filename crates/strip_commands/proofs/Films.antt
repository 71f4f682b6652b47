-- What is claimed of a command on one film's file.
use Rattle.std.proofs.Common.{◌≡◌, ◌∙◌, inl, inr, ◌<◌, ℕ, List, Option, Result, Ok, Err, sym, subst, ap}
use Rattle.strip_model.specs.Data.{InstanceData}
use Rattle.strip_model.specs.FilmOf.{film_of}
use Rattle.strip_reduce.specs.Reduction.{class_count}
use Rattle.strip_text.specs.Told.{ToldData}
use Rattle.strip_answer.specs.declared.status.Status.{Status}
use Rattle.strip_answer.specs.declared.status.Status.TheVariants.{BadInstance}
use Rattle.strip_answer.proofs.Endings.{IsOfJob}
use Rattle.strip_io.specs.Files.{FilesData}
use Rattle.strip_answer.specs.declared.input.Input.{Input}
use Rattle.strip_answer.specs.declared.input.Input.TheVariants.{Said}
use Rattle.strip_answer.specs.Input.{HasInput}
use Rattle.strip_answer.specs.Said.{IsFilmGiven, IsSaidFilm, film_said}
use Rattle.strip_commands.specs.Film.{HasClasses, IsAnswerTo, IsFilmDue, IsFilmUnfit}

-- a film that is given is one that a text says
pub film_is : (file : List ℕ) (before after : FilesData) (input : Input InstanceData) (inst : InstanceData) → input ≡ Said inst
    → HasInput file 1_048_576 before after (λ text. IsFilmGiven (film_said text) input) → IsSaidFilm inst
film_is file before after input inst is given = by (film_said given.text) (subst (IsFilmGiven (film_said given.text)) is given.holds)
  where
    by : (said : Result InstanceData (Option ToldData)) → IsFilmGiven said (Said inst) → IsSaidFilm inst
    by (Ok other) film = subst IsSaidFilm (sym film.0) film.1
    by (Err told) none = absurd none

module _ (Due : InstanceData → Status → List ℕ → Type 0) (file : List ℕ) (before after : FilesData) (status : Status) (printed : List ℕ) where
  -- what is due for a text that says an instance, by what was given of it
  pub film_due : (name : List ℕ) (input : Input InstanceData) (inst : InstanceData) → name ≡ file → input ≡ Said inst → Due inst status printed
      → HasInput name 1_048_576 before after (λ text. IsFilmGiven (film_said text) input) → IsFilmDue Due file before after status printed
  film_due name input inst named is answer given = record {
    text = has.text;
    told = has.told;
    came = has.came;
    too_many = has.too_many;
    holds = by (film_said has.text) (subst (IsFilmGiven (film_said has.text)) is has.holds);
  }
    where
      has : HasInput file 1_048_576 before after (λ text. IsFilmGiven (film_said text) input)
      has = subst (λ (f : List ℕ). HasInput f 1_048_576 before after (λ text. IsFilmGiven (film_said text) input)) named given

      by : (said : Result InstanceData (Option ToldData)) → IsFilmGiven said (Said inst) → IsAnswerTo Due status printed said
      by (Ok other) (same, film) = subst (λ i. Due i status printed) same answer
      by (Err told) none = absurd none

  module _ (due : IsFilmDue Due file before after status printed) where
    -- a status that is one of a job's for every instance is one
    pub film_answers : ((inst : InstanceData) → Due inst status printed → IsOfJob status) → IsOfJob status
    film_answers answers = by (film_said due.text) due.holds
      where
        by : (said : Result InstanceData (Option ToldData)) → IsAnswerTo Due status printed said → IsOfJob status
        by (Ok inst) is = answers inst is
        by (Err told) is = subst IsOfJob (sym is.0) tt

    -- what is due for an instance that the files tell
    pub film_told : (IsCount : ℕ → Type 0) (has : HasClasses IsCount file before) → Due has.inst status printed
    film_told IsCount has = subst (IsAnswerTo Due status printed) (ap film_said (due.told has.text has.told) ∙ has.says) due.holds

    -- a file that isn't fit is refused, where an instance with too many classes is
    pub film_unfit : ((inst : InstanceData) → 64 < class_count (film_of inst) → Due inst status printed → status ≡ BadInstance)
        → (why : Status) → IsFilmUnfit file before why → status ≡ why
    film_unfit too_many why (inl none, is) =
        let way : IsAnswerTo Due status printed (Err none.fault)
        = subst (IsAnswerTo Due status printed) (ap film_said (due.told none.text none.told) ∙ none.refused) due.holds in
        way.0 ∙ sym is
    film_unfit too_many why (inr has, is) = too_many has.inst has.count (film_told (λ count. 64 < count) has) ∙ sym is
