-- What the headline of a run that solved a film proves.
use Rattle.std.proofs.Common.{◌≡◌, ◌∙◌, ◌⊎◌, inl, inr, ◌++◌, ℕ, List, Option, Some, Result, Ok, Err, refl, sym, subst, ap, arith}
use Rattle.std.specs.Option.{option_map}
use Rattle.std.proofs.lemmas.Bool.{cases_lt}
use Rattle.strip_model.specs.declared.kind.Kind.{Kind}
use Rattle.strip_model.specs.Film.{FilmData}
use Rattle.strip_film.specs.Path.{PathData}
use Rattle.strip_model.specs.Data.{InstanceData}
use Rattle.strip_model.specs.FilmOf.{film_of}
use Rattle.strip_reduce.specs.Reduction.{class_count}
use Rattle.strip_text.specs.Told.{ToldData}
use Rattle.strip_words.specs.Words.{Word}
use Rattle.strip_words.specs.Solve.{SolveData}
use Rattle.strip_words.specs.Jobs.{JobData, Solve as ToSolve, NameJob}
use Rattle.strip_proof.specs.declared.plan.Status.{Status as PlanStatus}
use Rattle.strip_proof.specs.declared.plan.Status.TheVariants.{Optimal, Bounded as CutShort}
use Rattle.strip_proof.specs.Plan.{PlanData}
use Rattle.strip_solve.specs.Solved.{Closes}
use Rattle.strip_solve.proofs.Chosen.{SolvedSomehow, solved_somehow}
use Rattle.strip_answer.specs.declared.status.Status.{Status}
use Rattle.strip_answer.specs.declared.status.Status.TheVariants.{Done, NoJob, Bounded, NotAccepted, BadInstance, BadPlan, ReadFault, WriteFault, OutOfMemory}
use Rattle.strip_answer.specs.Status.{code_of}
use Rattle.strip_io.specs.Files.{FilesData}
use Rattle.strip_answer.specs.Run.{IsOutcome, Prints, RunData}
use Rattle.strip_answer.specs.Claims.{AsksFor, IsDue}
use Rattle.strip_answer.specs.Headline.{IsHeadline}
use Rattle.strip_answer.specs.Said.{film_said}
use Rattle.strip_commands.specs.Due.{IsDueFor, board_claims}
use Rattle.strip_commands.specs.Plan.{IsPlan, exit_of}
use Rattle.strip_commands.specs.Proved.{IsBoardProved, IsSolvedFilm}
use Rattle.strip_commands.specs.Film.{IsAnswerTo}
use Rattle.strip_commands.specs.Solve.{IsSolveAnswer, IsSolveDue}

-- the exit statuses of a plan
abbrev pub IsOfPlan : Status → Type 0
IsOfPlan Done = Unit {0}
IsOfPlan Bounded = Unit {0}
IsOfPlan status = ⊥

-- an optimal plan's bound is its cost
optimal_closes : (kind : Kind) (film : FilmData) (most : ℕ) (begun : PathData) (plan : PlanData) (status : PlanStatus) → Closes kind film most begun plan status
    → exit_of status ≡ Done → plan.bound ≡ plan.cost
optimal_closes kind film most begun plan Optimal closes is = closes
optimal_closes kind film most begun plan CutShort closes is = absurd (let e : Bounded ≡ Done = is in cc)

-- a plan that was found and printed
solved_film : (job : SolveData) (text printed : List ℕ) (inst : InstanceData) (status : Status) → film_said text ≡ Ok inst → IsPlan job inst status printed
    → IsSolvedFilm job text printed (code_of status)
solved_film job text printed inst status says is = by (solved_somehow job.auto job.kind (film_of inst) job.nodes is.plan is.solved)
  where
    done_by : (s : Status) → code_of s ≡ 0 → s ≡ Done
    done_by Done zero = refl
    done_by NoJob zero = absurd (let e : 2 ≡ 0 = zero in omega (arith, e))
    done_by Bounded zero = absurd (let e : 3 ≡ 0 = zero in omega (arith, e))
    done_by NotAccepted zero = absurd (let e : 4 ≡ 0 = zero in omega (arith, e))
    done_by BadInstance zero = absurd (let e : 5 ≡ 0 = zero in omega (arith, e))
    done_by BadPlan zero = absurd (let e : 6 ≡ 0 = zero in omega (arith, e))
    done_by ReadFault zero = absurd (let e : 7 ≡ 0 = zero in omega (arith, e))
    done_by WriteFault zero = absurd (let e : 8 ≡ 0 = zero in omega (arith, e))
    done_by OutOfMemory zero = absurd (let e : 9 ≡ 0 = zero in omega (arith, e))

    by : SolvedSomehow (film_of inst) job.nodes is.plan → IsSolvedFilm job text printed (code_of status)
    by (kind, lines, fewer, solved) = record {
      inst = inst;
      says = says;
      plan = is.plan;
      shown = is.text;
      least = solved.bound;
      kept = solved.order;
      own = λ kept. omega (arith, solved.cost, solved.own kept);
      best = λ zero. record {
        is_kept = solved.order;
        pays =
            sym solved.cost ∙ sym (optimal_closes kind (film_of inst) lines solved.varied is.plan is.plan.status solved.closes (sym is.ends ∙ done_by status zero));
        least = solved.bound;
      };
    }

-- what is due for a job to solve with the status of a plan is a plan's text
due_solved : (job : SolveData) (before after : FilesData) (text printed : List ℕ) (status : Status) → IsOfPlan status → before.bytes job.file ≡ Some text
    → IsSolveDue job before after status printed → IsSolvedFilm job text printed (code_of status)
due_solved job before after text printed status of_plan told due =
    by (film_said text) refl (subst (λ (t : List ℕ). IsAnswerTo (IsSolveAnswer job) status printed (film_said t)) (due.told text told) due.holds)
  where
    never : (why : Status) → why ≡ BadInstance → ¬ IsOfPlan why
    never why is of = subst IsOfPlan is of

    by : (said : Result InstanceData (Option ToldData)) → film_said text ≡ said → IsAnswerTo (IsSolveAnswer job) status printed said
        → IsSolvedFilm job text printed (code_of status)
    by (Ok inst) is answer = elim (cases_lt 64 (class_count (film_of inst))) [
      | inl many ↦ absurd (never status (answer.too_many many).0 of_plan)
      | inr few ↦ solved_film job text printed inst status is (answer.plan few)
    ]
    by (Err told) is refusal = absurd (never status refusal.0 of_plan)

-- an exit status 0 or 3 is that of a plan
of_plan_by : (status : Status) → (code_of status ≡ 0) ⊎ (code_of status ≡ 3) → IsOfPlan status
of_plan_by Done is = tt
of_plan_by Bounded is = tt
of_plan_by NoJob is = absurd (let e : (2 ≡ 0) ⊎ (2 ≡ 3) = is in omega (arith, e))
of_plan_by NotAccepted is = absurd (let e : (4 ≡ 0) ⊎ (4 ≡ 3) = is in omega (arith, e))
of_plan_by BadInstance is = absurd (let e : (5 ≡ 0) ⊎ (5 ≡ 3) = is in omega (arith, e))
of_plan_by BadPlan is = absurd (let e : (6 ≡ 0) ⊎ (6 ≡ 3) = is in omega (arith, e))
of_plan_by ReadFault is = absurd (let e : (7 ≡ 0) ⊎ (7 ≡ 3) = is in omega (arith, e))
of_plan_by WriteFault is = absurd (let e : (8 ≡ 0) ⊎ (8 ≡ 3) = is in omega (arith, e))
of_plan_by OutOfMemory is = absurd (let e : (9 ≡ 0) ⊎ (9 ≡ 3) = is in omega (arith, e))

-- a run that ends with the status 0 or 3 proves what the text says that it printed
pub run_proves : ((words : List Word) (a b : JobData) → NameJob words a → NameJob words b → a ≡ b)
    → (run : RunData) (code : ℕ) → IsHeadline board_claims run code → IsBoardProved run code
run_proves once run code holds job text taken named told sink is =
    let of_plan = of_plan_by holds.status (subst (λ (n : ℕ). (n ≡ 0) ⊎ (n ≡ 3)) holds.exit_status is) in
    let prints = printed holds.status of_plan holds.outcome in (
      prints.0,
      prints.2 ∙ ap (option_map (λ (t : List ℕ). t ++ prints.0)) sink,
      subst (IsSolvedFilm job text prints.0) (sym holds.exit_status)
          (due_solved job run.files_before run.files_after text prints.0 holds.status of_plan told (due_by holds.status prints.0 of_plan prints.1)),
    )
  where
    printed : (status : Status) → IsOfPlan status
        → IsOutcome run (AsksFor board_claims run.words run.files_before) (IsDue board_claims run.words run.files_before run.files_after) status
        → Prints run (IsDue board_claims run.words run.files_before run.files_after status)
    printed Done of_plan outcome = outcome
    printed Bounded of_plan outcome = outcome
    printed NoJob of_plan outcome = absurd of_plan
    printed NotAccepted of_plan outcome = absurd of_plan
    printed BadInstance of_plan outcome = absurd of_plan
    printed BadPlan of_plan outcome = absurd of_plan
    printed ReadFault of_plan outcome = absurd of_plan
    printed WriteFault of_plan outcome = absurd of_plan
    printed OutOfMemory of_plan outcome = absurd of_plan

    due_by : (status : Status) (printed : List ℕ) → IsOfPlan status → IsDue board_claims run.words run.files_before run.files_after status printed
        → IsSolveDue job run.files_before run.files_after status printed
    due_by status printed of_plan (inl none) = absurd (subst IsOfPlan none.1 of_plan)
    due_by status printed of_plan (inr (other, names, due)) =
        subst (λ (j : JobData). IsDueFor j run.files_before run.files_after status printed) (once run.words other (ToSolve job) names named) due
