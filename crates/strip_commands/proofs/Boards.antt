-- What is claimed of each command.
use Rattle.std.proofs.Common.{◌≡◌, ◌∙◌, ◌⊎◌, inl, inr, ◌≤◌, ℕ, List, refl, sym, subst}
use Rattle.std.proofs.lemmas.Bool.{cases_lt}
use Rattle.strip_model.specs.Data.{InstanceData}
use Rattle.strip_model.specs.FilmOf.{film_of}
use Rattle.strip_reduce.specs.Reduction.{class_count}
use Rattle.strip_reports.specs.Text.{dood_text}
use Rattle.strip_reports.specs.Sheet.{sheet_text}
use Rattle.strip_words.specs.Words.{Word}
use Rattle.strip_words.specs.Solve.{SolveData}
use Rattle.strip_words.specs.Plans.{PlanFilesData}
use Rattle.strip_words.specs.Gen.{GenData, TrialData}
use Rattle.strip_words.specs.Jobs.{JobData, Solve, Price, Arrange, Check, Convert, Dood, Sheet, Board, Gen, Trial, NameJob}
use Rattle.strip_proof.specs.declared.plan.Status.{Status as PlanStatus}
use Rattle.strip_proof.specs.declared.plan.Status.TheVariants.{Optimal, Bounded as CutShort}
use Rattle.strip_proof.specs.Plan.{PlanData}
use Rattle.strip_answer.specs.declared.status.Status.{Status}
use Rattle.strip_answer.specs.declared.status.Status.TheVariants.{Done, Bounded, NotAccepted}
use Rattle.strip_io.specs.Files.{FilesData}
use Rattle.strip_answer.proofs.Endings.{AreShown, IsOfJob}
use Rattle.strip_answer.specs.Both.{IsBothDue}
use Rattle.strip_answer.specs.Fit.{AreTold, AreUnfit}
use Rattle.strip_answer.proofs.Ways.{due_by, due_told, due_unfit}
use Rattle.strip_check_command.proofs.Audits.{audit_answers, audit_fit, audit_unfit}
use Rattle.strip_commands.specs.Plan.{IsPlan, exit_of}
use Rattle.strip_commands.specs.Film.{IsFilmDue, IsFilmFit, IsFilmUnfit}
use Rattle.strip_commands.specs.Solve.{IsSolveAnswer, IsSolveDue}
use Rattle.strip_commands.specs.Price.{IsBrokenPlan, IsPriceStatus, IsPriced, IsPricedPlan}
use Rattle.strip_commands.specs.Convert.{IsConvertDue, IsConvertFit, IsConverted}
use Rattle.strip_commands.specs.Ordered.{HasOrder, IsOrderFit, IsOrderUnfit}
use Rattle.strip_commands.specs.Report.{IsReported, Report}
use Rattle.strip_commands.specs.Arrange.{IsArranged}
use Rattle.strip_commands.specs.Board.{IsPageOrNone}
use Rattle.strip_commands.specs.Made.{IsGenDue, IsTrialDue, IsTried, made_of}
use Rattle.strip_commands.specs.Due.{IsDueFor, IsFitFor, IsFitStatus, IsUnfitFor, board_claims}
use Rattle.strip_commands.proofs.Films.{film_answers, film_told, film_unfit}

exits : (status : PlanStatus) → (exit_of status ≡ Done) ⊎ (exit_of status ≡ Bounded)
exits Optimal = inl refl
exits CutShort = inr refl

plan_ends : (job : SolveData) (inst : InstanceData) (status : Status) (printed : List ℕ) → IsPlan job inst status printed → (status ≡ Done) ⊎ (status ≡ Bounded)
plan_ends job inst status printed plan = elim (exits plan.plan.status) [
  | inl done ↦ inl (plan.ends ∙ done)
  | inr bounded ↦ inr (plan.ends ∙ bounded)
]

ends_answer : (status : Status) → (status ≡ Done) ⊎ (status ≡ Bounded) → IsOfJob status
ends_answer status (inl is) = subst IsOfJob (sym is) tt
ends_answer status (inr is) = subst IsOfJob (sym is) tt

-- the statuses of the answers to an instance
solve_ends : (job : SolveData) (inst : InstanceData) (status : Status) (printed : List ℕ) → IsSolveAnswer job inst status printed → IsOfJob status
solve_ends job inst status printed is = elim (cases_lt 64 (class_count (film_of inst))) [
  | inl many ↦ subst IsOfJob (sym (is.too_many many).0) tt
  | inr few ↦ ends_answer status (plan_ends job inst status printed (is.plan few))
]

module _ (job : SolveData) (before after : FilesData) (status : Status) (printed : List ℕ) (due : IsSolveDue job before after status printed) where
  solve_answers : IsOfJob status
  solve_answers = film_answers (IsSolveAnswer job) job.file before after status printed due (λ inst is. solve_ends job inst status printed is)

  solve_fit : IsFilmFit job.file before → (status ≡ Done) ⊎ (status ≡ Bounded)
  solve_fit has =
      let answer = film_told (IsSolveAnswer job) job.file before after status printed due (λ count. count ≤ 64) has in
      plan_ends job has.inst status printed (answer.plan has.count)

  solve_unfit : (why : Status) → IsFilmUnfit job.file before why → status ≡ why
  solve_unfit why unfit = film_unfit (IsSolveAnswer job) job.file before after status printed due (λ inst many is. (is.too_many many).0) why unfit

-- the statuses of a plan of the rows, and of the reason against it
priced_ends : (inst : InstanceData) (status : Status) (printed : List ℕ) → IsPricedPlan inst status printed ⊎ IsBrokenPlan inst status printed → IsPriceStatus status
priced_ends inst status printed (inl is) = inl is.done
priced_ends inst status printed (inr is) = inr is.refused

price_ends : (inst : InstanceData) (status : Status) (printed : List ℕ) → IsPriced inst status printed → IsOfJob status
price_ends inst status printed is = elim (cases_lt 64 (class_count (film_of inst))) [
  | inl many ↦ subst IsOfJob (sym (is.too_many many).0) tt
  | inr few ↦ by (priced_ends inst status printed (is.plan few))
]
  where
    by : IsPriceStatus status → IsOfJob status
    by (inl done) = subst IsOfJob (sym done) tt
    by (inr refused) = subst IsOfJob (sym refused) tt

module _ (film : List ℕ) (before after : FilesData) (status : Status) (printed : List ℕ) (due : IsFilmDue IsPriced film before after status printed) where
  price_answers : IsOfJob status
  price_answers = film_answers IsPriced film before after status printed due (λ inst is. price_ends inst status printed is)

  price_fit : IsFilmFit film before → IsPriceStatus status
  price_fit has =
      let answer = film_told IsPriced film before after status printed due (λ count. count ≤ 64) has in
      priced_ends has.inst status printed (answer.plan has.count)

  price_unfit : (why : Status) → IsFilmUnfit film before why → status ≡ why
  price_unfit why unfit = film_unfit IsPriced film before after status printed due (λ inst many is. (is.too_many many).0) why unfit

module _ (files : PlanFilesData) (before after : FilesData) (status : Status) (printed : List ℕ) (due : IsConvertDue files before after status printed) where
  convert_answers : IsOfJob status
  convert_answers =
      due_by IsConverted files.film files.plan before after status printed IsOfJob tt tt (λ inst plan is. subst IsOfJob (sym is.done) tt) due

  convert_fit : IsConvertFit files before → status ≡ Done
  convert_fit (inst, plan, told, any) = (due_told IsConverted files.film files.plan before after status printed inst plan told due).1.done

  convert_unfit : (why : Status) → AreUnfit files.film files.plan before why → status ≡ why
  convert_unfit why unfit = due_unfit IsConverted files.film files.plan before after status printed why unfit due

-- a plan with an order is answered, and one without it is refused
abbrev EndsByOrder : InstanceData → PlanData → Status → Type 0
EndsByOrder inst plan status = (HasOrder inst plan × (status ≡ Done)) ⊎ ((¬ HasOrder inst plan) × (status ≡ NotAccepted))

reported_ends : (report : Report) (inst : InstanceData) (plan : PlanData) (status : Status) (printed : List ℕ) → IsReported report inst plan.order status printed
    → EndsByOrder inst plan status
reported_ends report inst plan status printed (inl is) = inl (is.is_order, is.done)
reported_ends report inst plan status printed (inr none) = inr (none.no_order, none.refused)

arranged_ends : (inst : InstanceData) (plan : PlanData) (status : Status) (printed : List ℕ) → IsArranged inst plan.order status printed → EndsByOrder inst plan status
arranged_ends inst plan status printed (inl is) = inl (is.is_order, is.done)
arranged_ends inst plan status printed (inr none) = inr (none.no_order, none.refused)

page_ends : (inst : InstanceData) (plan : PlanData) (status : Status) (printed : List ℕ) → IsPageOrNone inst plan status printed → EndsByOrder inst plan status
page_ends inst plan status printed (inl is) = inl (is.is_order, is.done)
page_ends inst plan status printed (inr none) = inr (none.no_order, none.refused)

module _ (Due : InstanceData → PlanData → Status → List ℕ → Type 0)
    (ends : (inst : InstanceData) (plan : PlanData) (status : Status) (printed : List ℕ) → Due inst plan status printed → EndsByOrder inst plan status)
    (files : PlanFilesData) (before after : FilesData) (status : Status) (printed : List ℕ)
    (due : IsBothDue Due files.film files.plan before after status printed) where
  order_answers : IsOfJob status
  order_answers =
      due_by Due files.film files.plan before after status printed IsOfJob tt tt (λ inst plan its. by inst plan (ends inst plan status printed its)) due
    where
      by : (inst : InstanceData) (plan : PlanData) → EndsByOrder inst plan status → IsOfJob status
      by inst plan (inl is) = subst IsOfJob (sym is.1) tt
      by inst plan (inr none) = subst IsOfJob (sym none.1) tt

  -- how it ends for an instance and a plan that the files tell
  order_told : (inst : InstanceData) (plan : PlanData) → AreTold files.film files.plan before inst plan → EndsByOrder inst plan status
  order_told inst plan told = ends inst plan status printed (due_told Due files.film files.plan before after status printed inst plan told due).1

  order_fit : IsOrderFit files before → status ≡ Done
  order_fit (inst, plan, told, order) = by (order_told inst plan told)
    where
      by : EndsByOrder inst plan status → status ≡ Done
      by (inl is) = is.1
      by (inr none) = absurd (none.0 order)

  order_unfit : (why : Status) → IsOrderUnfit files before why → status ≡ why
  order_unfit why (inl unfit) = due_unfit Due files.film files.plan before after status printed why unfit due
  order_unfit why (inr ((inst, plan, told, none), why_is)) = by (order_told inst plan told)
    where
      by : EndsByOrder inst plan status → status ≡ why
      by (inl is) = absurd (none is.0)
      by (inr is) = is.1 ∙ sym why_is

abbrev dood_due : InstanceData → PlanData → Status → List ℕ → Type 0
dood_due inst plan = IsReported dood_text inst plan.order

abbrev sheet_due : InstanceData → PlanData → Status → List ℕ → Type 0
sheet_due inst plan = IsReported sheet_text inst plan.order

abbrev arrange_due : InstanceData → PlanData → Status → List ℕ → Type 0
arrange_due inst plan = IsArranged inst plan.order

gen_answers : (film : GenData) (status : Status) (printed : List ℕ) → IsGenDue film status printed → IsOfJob status
gen_answers film status printed due = subst IsOfJob (sym due.done) tt

tried_ends : (job : TrialData) (status : Status) (printed : List ℕ) → IsTried job status printed → (status ≡ Done) ⊎ (status ≡ Bounded)
tried_ends job status printed tried = elim (exits tried.plan.status) [
  | inl done ↦ inl (tried.ends ∙ done)
  | inr bounded ↦ inr (tried.ends ∙ bounded)
]

trial_answers : (job : TrialData) (status : Status) (printed : List ℕ) → IsTrialDue job status printed → IsOfJob status
trial_answers job status printed due = elim (cases_lt 64 (class_count (film_of (made_of job.film)))) [
  | inl many ↦ subst IsOfJob (sym (due.too_many many).0) tt
  | inr few ↦ ends_answer status (tried_ends job status printed (due.tried few))
]

job_answers : (job : JobData) (before after : FilesData) (status : Status) (printed : List ℕ) → IsDueFor job before after status printed → IsOfJob status
job_answers (Solve job) before after status printed due = solve_answers job before after status printed due
job_answers (Price film) before after status printed due = price_answers film before after status printed due
job_answers (Arrange files) before after status printed due = order_answers arrange_due arranged_ends files before after status printed due
job_answers (Check files) before after status printed due = audit_answers files before after status printed due
job_answers (Convert files) before after status printed due = convert_answers files before after status printed due
job_answers (Dood files) before after status printed due = order_answers dood_due (reported_ends dood_text) files before after status printed due
job_answers (Sheet files) before after status printed due = order_answers sheet_due (reported_ends sheet_text) files before after status printed due
job_answers (Board files) before after status printed due = order_answers IsPageOrNone page_ends files before after status printed due
job_answers (Gen film) before after status printed due = gen_answers film status printed due
job_answers (Trial job) before after status printed due = trial_answers job status printed due

job_fit : (job : JobData) (before after : FilesData) (status : Status) (printed : List ℕ) → IsFitFor job before
    → IsDueFor job before after status printed → IsFitStatus job status
job_fit (Solve job) before after status printed fit due = solve_fit job before after status printed due fit
job_fit (Price film) before after status printed fit due = price_fit film before after status printed due fit
job_fit (Arrange files) before after status printed fit due = order_fit arrange_due arranged_ends files before after status printed due fit
job_fit (Check files) before after status printed fit due = audit_fit files before after status printed due fit
job_fit (Convert files) before after status printed fit due = convert_fit files before after status printed due fit
job_fit (Dood files) before after status printed fit due = order_fit dood_due (reported_ends dood_text) files before after status printed due fit
job_fit (Sheet files) before after status printed fit due = order_fit sheet_due (reported_ends sheet_text) files before after status printed due fit
job_fit (Board files) before after status printed fit due = order_fit IsPageOrNone page_ends files before after status printed due fit
job_fit (Gen film) before after status printed fit due = due.done
job_fit (Trial job) before after status printed fit due = tried_ends job status printed (due.tried fit)

job_unfit : (job : JobData) (before after : FilesData) (status why : Status) (printed : List ℕ) → IsUnfitFor job before why
    → IsDueFor job before after status printed → status ≡ why
job_unfit (Solve job) before after status why printed unfit due = solve_unfit job before after status printed due why unfit
job_unfit (Price film) before after status why printed unfit due = price_unfit film before after status printed due why unfit
job_unfit (Arrange files) before after status why printed unfit due = order_unfit arrange_due arranged_ends files before after status printed due why unfit
job_unfit (Check files) before after status why printed unfit due = audit_unfit files before after status printed due why unfit
job_unfit (Convert files) before after status why printed unfit due = convert_unfit files before after status printed due why unfit
job_unfit (Dood files) before after status why printed unfit due = order_unfit dood_due (reported_ends dood_text) files before after status printed due why unfit
job_unfit (Sheet files) before after status why printed unfit due = order_unfit sheet_due (reported_ends sheet_text) files before after status printed due why unfit
job_unfit (Board files) before after status why printed unfit due = order_unfit IsPageOrNone page_ends files before after status printed due why unfit
job_unfit (Gen film) before after status why printed unfit due = absurd unfit
job_unfit (Trial job) before after status why printed unfit due = (due.too_many unfit.0).0 ∙ sym unfit.1

-- the claims hold where words name one job
pub board_shown : ((words : List Word) (a b : JobData) → NameJob words a → NameJob words b → a ≡ b) → AreShown board_claims
board_shown once = record { once = once; answers = job_answers; fit = job_fit; unfit = job_unfit }
