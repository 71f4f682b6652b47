-- What two files say, one after the other.
use Rattle.std.proofs.Common.{◌≡◌, ◌∙◌, inl, inr, ℕ, List, Option, Result, Ok, Err, refl, sym, ap, subst, arith}
use Rattle.strip_model.specs.Data.{InstanceData}
use Rattle.strip_proof.specs.Plan.{PlanData}
use Rattle.strip_proof.specs.Text.{IsReadablePlan}
use Rattle.strip_text.specs.Told.{ToldData}
use Rattle.strip_answer.specs.declared.status.Status.{Status}
use Rattle.strip_answer.specs.declared.status.Status.TheVariants.{BadInstance, BadPlan}
use Rattle.strip_io.specs.Files.{FilesData}
use Rattle.strip_answer.specs.Run.{FilesStay}
use Rattle.strip_io.specs.Counts.{ReadFailed}
use Rattle.strip_answer.specs.declared.input.Input.{Input}
use Rattle.strip_answer.specs.declared.input.Input.TheVariants.{Said}
use Rattle.strip_answer.specs.Input.{HasInput}
use Rattle.strip_answer.specs.Said.{IsFilmGiven, IsSaidFilm, film_said, plan_said}
use Rattle.strip_answer.specs.Both.{Ways, BothSay, FilmSays, PlanSays, IsBothDue, IsEither, MaySayFilm, ways_due}
use Rattle.strip_answer.specs.Fit.{AreTold, AreUnfit}

-- what holds of a file's text, by what else holds of it
pub input_so : (name : List ℕ) (limit : ℕ) (before after : FilesData) (P Q : List ℕ → Type 0) → ((text : List ℕ) → P text → Q text)
    → HasInput name limit before after P → HasInput name limit before after Q
input_so name limit before after P Q more has = record {
  text = has.text;
  told = has.told;
  came = has.came;
  too_many = has.too_many;
  holds = more has.text has.holds;
}

-- the same ways, each with what follows from it
pub record Follow (one two : Ways) : Type 0 where
  pub film : (told : Option ToldData) → one.Film told → two.Film told
  pub plan : (told : Option ToldData) → one.Plan told → two.Plan told
  pub both : (inst : InstanceData) (plan : PlanData) → IsSaidFilm inst → IsReadablePlan inst plan → one.Both inst plan → two.Both inst plan

module _ (one two : Ways) (follow : Follow one two) where
  plan_follows : (inst : InstanceData) → IsSaidFilm inst → (said : Result PlanData (Option ToldData)) → PlanSays one inst said → PlanSays two inst said
  plan_follows inst film (Ok plan) is = (is.0, follow.both inst plan film is.0 is.1)
  plan_follows inst film (Err told) is = follow.plan told is

  film_follows : (plan : List ℕ) (middle after : FilesData) (said : Result InstanceData (Option ToldData)) → FilmSays one plan middle after said
      → FilmSays two plan middle after said
  film_follows plan middle after (Ok inst) (film, is) = (
    film,
    input_so plan 1_073_741_824 middle after (λ text. PlanSays one inst (plan_said inst text)) (λ text. PlanSays two inst (plan_said inst text))
        (λ text. plan_follows inst film (plan_said inst text)) is,
  )
  film_follows plan middle after (Err told) is = (is.0, follow.film told is.1)

  pub both_follow : (film plan : List ℕ) (before after : FilesData) → BothSay one film plan before after → BothSay two film plan before after
  both_follow film plan before after (middle, same, has) = (
    middle,
    same,
    input_so film 1_048_576 before middle (λ text. FilmSays one plan middle after (film_said text)) (λ text. FilmSays two plan middle after (film_said text))
        (λ text. film_follows plan middle after (film_said text)) has,
  )

module _ (Due : InstanceData → PlanData → Status → List ℕ → Type 0) (film plan : List ℕ) (before after : FilesData) (status : Status) (printed : List ℕ) where
  -- where the files tell an instance and a plan, what is due is due for them
  pub due_told : (inst : InstanceData) (its : PlanData) → AreTold film plan before inst its → IsBothDue Due film plan before after status printed
      → IsReadablePlan inst its × Due inst its status printed
  due_told inst its told (middle, same, has) =
      let says : film_said has.text ≡ Ok inst = ap film_said (has.told told.film_text told.film_told) ∙ told.film_says in
      let film_way : FilmSays (ways_due Due status printed) plan middle after (Ok inst) = subst (FilmSays (ways_due Due status printed) plan middle after) says has.holds in
      let plans = film_way.1 in
      let its_text = plans.told told.plan_text (ap (λ bytes. bytes plan) same ∙ told.plan_told) in
      subst (PlanSays (ways_due Due status printed) inst) (ap (plan_said inst) its_text ∙ told.plan_says) plans.holds

  -- and where they tell that one isn't fit, that is told
  pub due_unfit : (why : Status) → AreUnfit film plan before why → IsBothDue Due film plan before after status printed → status ≡ why
  due_unfit why (inl (none, is)) (middle, same, has) =
      let says : film_said has.text ≡ Err none.fault = ap film_said (has.told none.text none.told) ∙ none.refused in
      let way : FilmSays (ways_due Due status printed) plan middle after (Err none.fault) = subst (FilmSays (ways_due Due status printed) plan middle after) says has.holds in
      way.1.0 ∙ sym is
  due_unfit why (inr (none, is)) (middle, same, has) =
      let says : film_said has.text ≡ Ok none.inst = ap film_said (has.told none.film_text none.film_told) ∙ none.film_says in
      let film_way : FilmSays (ways_due Due status printed) plan middle after (Ok none.inst) = subst (FilmSays (ways_due Due status printed) plan middle after) says has.holds in
      let plans = film_way.1 in
      let its_text = plans.told none.text (ap (λ bytes. bytes plan) same ∙ none.told) in
      let way : PlanSays (ways_due Due status printed) none.inst (Err none.fault)
      = subst (PlanSays (ways_due Due status printed) none.inst) (ap (plan_said none.inst) its_text ∙ none.refused) plans.holds in
      way.0 ∙ sym is

  -- what holds of the statuses of refusals and of what is due for an instance and a plan holds of what is due
  pub due_by : (P : Status → Type 0) → P BadInstance → P BadPlan → ((inst : InstanceData) (its : PlanData) → Due inst its status printed → P status)
      → IsBothDue Due film plan before after status printed → P status
  due_by P film_refused plan_refused both (middle, same, has) = by_film (film_said has.text) has.holds
    where
      by_plan : (inst : InstanceData) (said : Result PlanData (Option ToldData)) → PlanSays (ways_due Due status printed) inst said → P status
      by_plan inst (Ok its) is = both inst its is.1
      by_plan inst (Err told) is = subst P (sym is.0) plan_refused

      by_film : (said : Result InstanceData (Option ToldData)) → FilmSays (ways_due Due status printed) plan middle after said → P status
      by_film (Ok inst) is = by_plan inst (plan_said inst is.1.text) is.1.holds
      by_film (Err told) is = subst P (sym is.1.0) film_refused

-- a film that was given may be said
pub may_say : (film : List ℕ) (before after : FilesData) (input : Input InstanceData) (inst : InstanceData) → input ≡ Said inst
    → HasInput film 1_048_576 before after (λ text. IsFilmGiven (film_said text) input) → MaySayFilm film before
may_say film before after input inst given has text told = subst (λ (t : List ℕ). (i : InstanceData) × (film_said t ≡ Ok i)) (has.told text told)
    (by (film_said has.text) refl (subst (IsFilmGiven (film_said has.text)) given has.holds))
  where
    by : (said : Result InstanceData (Option ToldData)) → film_said has.text ≡ said → IsFilmGiven said (Said inst) → (i : InstanceData) × (film_said has.text ≡ Ok i)
    by (Ok i) is given = (i, is)
    by (Err refused) is given = absurd given

-- a read that failed after reads that didn't
pub failed_later : (name : List ℕ) (before middle after : FilesData) → middle.holds ≡ before.holds → middle.faults ≡ before.faults
    → ReadFailed name middle.holds middle.faults after.faults → ReadFailed name before.holds before.faults after.faults
failed_later name before middle after held faults failed =
    subst (λ f. ReadFailed name before.holds f after.faults) faults (subst (λ h. ReadFailed name h middle.faults after.faults) held failed)

-- what stays where the second file isn't read, and where it is
pub stays_first : (film plan : List ℕ) (before after : FilesData) (failed : Type 0) → FilesStay before after (λ file. film ≡ file) failed
    → FilesStay before after (IsEither film plan before) failed
stays_first film plan before after failed stay = record {
  held = stay.held;
  told = stay.told;
  later = stay.later;
  others = λ name other. stay.others name (λ is. other (inl is));
  unfailed = stay.unfailed;
  came_others = λ name other. stay.came_others name (λ is. other (inl is));
}

pub stays_both : (film plan : List ℕ) (before middle after : FilesData) (once again failed : Type 0) → FilesStay before middle (λ file. film ≡ file) once
    → FilesStay middle after (λ file. plan ≡ file) again → MaySayFilm film before → ¬ once → (again → failed) → FilesStay before after (IsEither film plan before) failed
stays_both film plan before middle after once again failed one two may fine so = record {
  held = two.held ∙ one.held;
  told = two.told ∙ one.told;
  later = λ name. omega (arith, one.later name, two.later name);
  others = λ name other. two.others name (λ is. other (inr (is, may))) ∙ one.others name (λ is. other (inl is));
  unfailed = λ well. two.unfailed (λ failed. well (so failed)) ∙ one.unfailed fine;
  came_others = λ name other. two.came_others name (λ is. other (inr (is, may))) ∙ one.came_others name (λ is. other (inl is));
}
