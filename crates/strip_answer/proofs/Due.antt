-- What is due for two files, by what was given of them.
use Rattle.std.proofs.Common.{◌≡◌, ℕ, List, Option, Result, Ok, Err, sym, subst}
use Rattle.strip_model.specs.Data.{InstanceData}
use Rattle.strip_proof.specs.declared.plan.Plan.{Plan}
use Rattle.strip_proof.specs.Plan.{PlanData, plan_data}
use Rattle.strip_proof.specs.Text.{IsReadablePlan}
use Rattle.strip_text.specs.Told.{ToldData}
use Rattle.strip_answer.specs.declared.answer.Answer.{Answer}
use Rattle.strip_answer.specs.declared.status.Status.{Status}
use Rattle.strip_answer.specs.Ending.{answer_text}
use Rattle.strip_io.specs.Files.{FilesData}
use Rattle.strip_answer.specs.declared.input.Input.{Input}
use Rattle.strip_answer.specs.declared.input.Input.TheVariants.{Said, Refused}
use Rattle.strip_answer.specs.Said.{IsSaidFilm, film_said, plan_said}
use Rattle.strip_answer.specs.Both.{BothSay, FilmSays, IsBothDue, PlanSays, ways_due, ways_of_input}
use Rattle.strip_answer.proofs.Ways.{both_follow}

module _ (Due : InstanceData → PlanData → Status → List ℕ → Type 0) (film plan : List ℕ) (before after : FilesData) (input : Input (InstanceData × Plan)) where
  -- a file was refused
  pub refused_due : (answer : Answer) → input ≡ Refused answer → BothSay (ways_of_input input) film plan before after
      → IsBothDue Due film plan before after answer.status (answer_text answer)
  refused_due answer is says =
      both_follow (ways_of_input (Refused answer)) (ways_due Due answer.status (answer_text answer)) (record {
        film = λ told refused. refused;
        plan = λ told refused. refused;
        both = λ inst its said readable given. absurd given;
      }) film plan before after (subst (λ i. BothSay (ways_of_input i) film plan before after) is says)

  -- an instance and a plan were given, for which this is due
  pub given_due : (inst : InstanceData) (its : Plan) (status : Status) (printed : List ℕ) → input ≡ Said (inst, its)
      → (IsSaidFilm inst → IsReadablePlan inst (plan_data its) → Due inst (plan_data its) status printed)
      → BothSay (ways_of_input input) film plan before after → IsBothDue Due film plan before after status printed
  given_due inst its status printed is due says =
      both_follow (ways_of_input (Said (inst, its))) (ways_due Due status printed) (record {
        film = λ told refused. absurd refused;
        plan = λ told refused. absurd refused;
        both = λ i p said readable given. by i p given.0 given.1 said readable;
      }) film plan before after (subst (λ i. BothSay (ways_of_input i) film plan before after) is says)
    where
      by : (i : InstanceData) (p : PlanData) → inst ≡ i → plan_data its ≡ p → IsSaidFilm i → IsReadablePlan i p → Due i p status printed
      by i p same alike said readable =
          let its_said = subst IsSaidFilm (sym same) said in
          let its_readable = subst (λ j. IsReadablePlan j (plan_data its)) (sym same) (subst (IsReadablePlan i) (sym alike) readable) in
          subst (λ q. Due i q status printed) alike (subst (λ j. Due j (plan_data its) status printed) same (due its_said its_readable))

-- what is given is such as texts say
pub given_said : (film plan : List ℕ) (before after : FilesData) (inst : InstanceData) (its : Plan) → BothSay (ways_of_input (Said (inst, its))) film plan before after
    → IsSaidFilm inst × IsReadablePlan inst (plan_data its)
given_said film plan before after inst its (middle, same, has) = by_film (film_said has.text) has.holds
  where
    by_plan : (i : InstanceData) → IsSaidFilm i → (said : Result PlanData (Option ToldData)) → PlanSays (ways_of_input (Said (inst, its))) i said
        → IsSaidFilm inst × IsReadablePlan inst (plan_data its)
    by_plan i film_is (Ok p) (readable, given) = (
      subst IsSaidFilm (sym given.0) film_is,
      subst (λ j. IsReadablePlan j (plan_data its)) (sym given.0) (subst (IsReadablePlan i) (sym given.1) readable),
    )
    by_plan i film_is (Err told) refused = absurd refused

    by_film : (said : Result InstanceData (Option ToldData)) → FilmSays (ways_of_input (Said (inst, its))) plan middle after said
        → IsSaidFilm inst × IsReadablePlan inst (plan_data its)
    by_film (Ok i) (film_is, plans) = by_plan i film_is (plan_said i plans.text) plans.holds
    by_film (Err told) (still, refused) = absurd refused
