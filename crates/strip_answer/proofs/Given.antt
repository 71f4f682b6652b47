-- What is given of files that are fit, and of those that aren't.
use Rattle.std.proofs.Common.{◌≡◌, ◌∙◌, ◌≤◌, ℕ, List, Option, Result, Ok, Err, IfOk, length, refl, sym, ap, subst}
use Rattle.std.proofs.lemmas.List.Elements.{All-weaker}
use Rattle.strip_model.specs.Data.{InstanceData, IsInstance}
use Rattle.strip_instance.specs.Field.{is_scene_name}
use Rattle.strip_instance.specs.Text.{HasReadableNames, IsReadableName, says as film_says}
use Rattle.strip_proof.specs.declared.plan.Plan.{Plan}
use Rattle.strip_proof.specs.Plan.{PlanData}
use Rattle.strip_text.specs.Told.{ToldData}
use Rattle.strip_answer.specs.declared.answer.Answer.{Answer}
use Rattle.strip_io.specs.Files.{FilesData}
use Rattle.strip_answer.specs.declared.input.Input.{Input}
use Rattle.strip_answer.specs.declared.input.Input.TheVariants.{Said, Refused}
use Rattle.strip_answer.specs.Input.{HasInput}
use Rattle.strip_answer.specs.Said.{IsFilmGiven, IsPlanGiven, IsSaidFilm, film_of_says, film_said, plan_said}
use Rattle.strip_answer.specs.Both.{BothSay, FilmSays, PlanSays, ways_of_input}
use Rattle.strip_answer.proofs.Long.{short_film}
use Rattle.strip_answer.proofs.Ways.{input_so}

-- what holds of an answer, by what else holds of it
pub of_ok : {T E : Type 0} (P Q : T → Type 0) (r : Result T E) → ((x : T) → P x → Q x) → IfOk r P → IfOk r Q
of_ok P Q (Ok x) more holds = more x holds
of_ok P Q (Err e) more holds = tt

-- the names by which a text says an instance serve a plan's text too
said_film : (inst : InstanceData) → IsInstance inst → HasReadableNames inst → IsSaidFilm inst
said_film inst is names = record {
  is_instance = is;
  names = names;
  scenes = record { apart = is.scene_names; bare = All-weaker _ _ (λ scene (name : IsReadableName is_scene_name scene.name). name.bare) inst.scenes names.scenes };
}

pub film_given : (text : List ℕ) (inst : InstanceData) → length text ≤ 1_048_576 → film_says text ≡ Ok inst → IsInstance inst → HasReadableNames inst
    → IsFilmGiven (film_said text) (Said inst)
film_given text inst short says is names =
    subst (λ said. IsFilmGiven said (Said inst)) (sym (short_film text short ∙ ap film_of_says says)) (refl, said_film inst is names)

-- the film's file is refused, and the plan's isn't read
pub film_refused : (film plan : List ℕ) (before after : FilesData) (first : Input InstanceData) (answer : Answer) → first ≡ Refused answer → after.bytes ≡ before.bytes
    → HasInput film 1_048_576 before after (λ text. IsFilmGiven (film_said text) first) → BothSay (ways_of_input (Refused answer)) film plan before after
film_refused film plan before after first answer is same has =
    (after, same, input_so film 1_048_576 before after _ _ (λ text given. by (film_said text) (subst (IsFilmGiven (film_said text)) is given)) has)
  where
    by : (said : Result InstanceData (Option ToldData)) → IsFilmGiven said (Refused answer) → FilmSays (ways_of_input (Refused answer)) plan after after said
    by (Ok inst) given = absurd given
    by (Err told) given = (refl, given)

module _ (film plan : List ℕ) (before middle after : FilesData) (first : Input InstanceData) (inst : InstanceData) (is : first ≡ Said inst)
    (same : middle.bytes ≡ before.bytes) (has : HasInput film 1_048_576 before middle (λ text. IsFilmGiven (film_said text) first)) where
  -- it says an instance, and what follows is by the plan's
  film_then : (input : Input (InstanceData × Plan))
      → HasInput plan 1_073_741_824 middle after (λ text. PlanSays (ways_of_input input) inst (plan_said inst text))
      → BothSay (ways_of_input input) film plan before after
  film_then input its =
      (middle, same, input_so film 1_048_576 before middle _ _ (λ text given. by (film_said text) (subst (IsFilmGiven (film_said text)) is given)) has)
    where
      by : (said : Result InstanceData (Option ToldData)) → IsFilmGiven said (Said inst) → FilmSays (ways_of_input input) plan middle after said
      by (Ok other) given =
          subst (λ i. IsSaidFilm i × HasInput plan 1_073_741_824 middle after (λ text. PlanSays (ways_of_input input) i (plan_said i text))) given.0
          (subst IsSaidFilm (sym given.0) given.1, its)
      by (Err told) given = absurd given

  pub plan_refused : (second : Input Plan) (answer : Answer) → second ≡ Refused answer
      → HasInput plan 1_073_741_824 middle after (λ text. IsPlanGiven inst (plan_said inst text) second)
      → BothSay (ways_of_input (Refused answer)) film plan before after
  plan_refused second answer is its =
      film_then (Refused answer) (input_so plan 1_073_741_824 middle after _ _
      (λ text given. by (plan_said inst text) (subst (IsPlanGiven inst (plan_said inst text)) is given)) its)
    where
      by : (said : Result PlanData (Option ToldData)) → IsPlanGiven inst said (Refused answer) → PlanSays (ways_of_input (Refused answer)) inst said
      by (Ok p) given = absurd given
      by (Err told) given = given

  pub both_given : (second : Input Plan) (p : Plan) → second ≡ Said p
      → HasInput plan 1_073_741_824 middle after (λ text. IsPlanGiven inst (plan_said inst text) second)
      → BothSay (ways_of_input (Said (inst, p))) film plan before after
  both_given second p is its =
      film_then (Said (inst, p)) (input_so plan 1_073_741_824 middle after _ _
      (λ text given. by (plan_said inst text) (subst (IsPlanGiven inst (plan_said inst text)) is given)) its)
    where
      by : (said : Result PlanData (Option ToldData)) → IsPlanGiven inst said (Said p) → PlanSays (ways_of_input (Said (inst, p))) inst said
      by (Ok q) given = (given.1, (refl, given.0))
      by (Err told) given = absurd given
