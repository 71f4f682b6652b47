-- Which status comes where.
use Rattle.std.proofs.Common.{◌≡◌, ◌∙◌, ◌≤◌, ◌⊎◌, inl, inr, ℕ, true, false, List, Result, Ok, Err, IfOk, refl, sym, subst}
use Rattle.strip_io.specs.Files.{FilesData}
use Rattle.strip_io.specs.Sink.{Took}
use Rattle.strip_answer.specs.declared.status.Status.{Status}
use Rattle.strip_answer.specs.declared.status.Status.TheVariants.{Done, NoJob, Bounded, NotAccepted, BadInstance, BadPlan, ReadFault, WriteFault, OutOfMemory}
use Rattle.strip_answer.specs.declared.answer.Answer.{Answer}
use Rattle.strip_answer.specs.declared.ending.Stop.{Stop}
use Rattle.strip_answer.specs.declared.ending.Stop.TheVariants.{Read, Memory}
use Rattle.strip_answer.specs.Status.{code_of}
use Rattle.strip_answer.specs.Ending.{IsEnd, answer_text}
use Rattle.strip_answer.specs.Run.{RunData, HasReadFault, HasWriteFault, IsOutcome, FilesStay, SinkStays}
use Rattle.strip_answer.specs.Claims.{Claims, AsksFor, IsDue, NameNone}
use Rattle.strip_answer.specs.Headline.{IsHeadline, IsRead}

-- what stays of the files stays also where more are asked for
pub stay_wider : (before after : FilesData) (P Q : List ℕ → Type 0) (failed : Type 0) → ((name : List ℕ) → P name → Q name)
    → FilesStay before after P failed → FilesStay before after Q failed
stay_wider before after P Q failed wider stay = record {
  held = stay.held;
  told = stay.told;
  later = stay.later;
  others = λ name other. stay.others name (λ asked. other (wider name asked));
  unfailed = stay.unfailed;
  came_others = λ name other. stay.came_others name (λ asked. other (wider name asked));
}

-- what holds of each way in which a run can end holds of its end
by_outcome : (run : RunData) (Asked : List ℕ → Type 0) (Due : Status → List ℕ → Type 0) (P : Status → Type 0) (status : Status)
    → IsOutcome run Asked Due status → ((s : Status) (printed : List ℕ) → Due s printed → P s)
    → (HasReadFault run.files_before run.files_after Asked → P ReadFault) → (HasWriteFault run.sink_before run.sink_after → P WriteFault)
    → P OutOfMemory → P status
by_outcome run Asked Due P Done ends due reads writes memory = due Done ends.0 ends.1
by_outcome run Asked Due P NoJob ends due reads writes memory = due NoJob ends.0 ends.1
by_outcome run Asked Due P Bounded ends due reads writes memory = due Bounded ends.0 ends.1
by_outcome run Asked Due P NotAccepted ends due reads writes memory = due NotAccepted ends.0 ends.1
by_outcome run Asked Due P BadInstance ends due reads writes memory = due BadInstance ends.0 ends.1
by_outcome run Asked Due P BadPlan ends due reads writes memory = due BadPlan ends.0 ends.1
by_outcome run Asked Due P ReadFault ends due reads writes memory = reads ends.0
by_outcome run Asked Due P WriteFault ends due reads writes memory = writes ends.0
by_outcome run Asked Due P OutOfMemory ends due reads writes memory = memory

-- a text is due only with a status that answers, and for a job with one that answers a job
abbrev pub IsAnswering : Status → Type 0
IsAnswering ReadFault = ⊥
IsAnswering WriteFault = ⊥
IsAnswering OutOfMemory = ⊥
IsAnswering status = Unit {0}

abbrev pub IsOfJob : Status → Type 0
IsOfJob NoJob = ⊥
IsOfJob status = IsAnswering status

any_answers : (status : Status) → IsOfJob status → IsAnswering status
any_answers Done answers = tt
any_answers NoJob answers = absurd answers
any_answers Bounded answers = tt
any_answers NotAccepted answers = tt
any_answers BadInstance answers = tt
any_answers BadPlan answers = tt
any_answers ReadFault answers = absurd answers
any_answers WriteFault answers = absurd answers
any_answers OutOfMemory answers = absurd answers

-- what a program shows of its claims: words name one job, what is due for a job has a status that answers one, and the one that is
-- claimed where the job can be done with its files, and where it can't
pub record AreShown {Job : Type 0} (claims : Claims Job) : Type 0 where
  pub once : (words : List (List ℕ)) (a b : Job) → claims.Names words a → claims.Names words b → a ≡ b
  pub answers : (job : Job) (before after : FilesData) (status : Status) (printed : List ℕ) → claims.Due job before after status printed → IsOfJob status
  pub fit : (job : Job) (before after : FilesData) (status : Status) (printed : List ℕ) → claims.Fit job before
      → claims.Due job before after status printed → claims.FitStatus job status
  pub unfit : (job : Job) (before after : FilesData) (status why : Status) (printed : List ℕ) → claims.Unfit job before why
      → claims.Due job before after status printed → status ≡ why

-- a run that printed all that is due ends so
printed_ends : (run : RunData) (Asked : List ℕ → Type 0) (Due : Status → List ℕ → Type 0) (status : Status) (printed : List ℕ) → IsAnswering status
    → Due status printed → Took run.sink_before.taken run.sink_after.taken printed → IsOutcome run Asked Due status
printed_ends run Asked Due Done printed answers due took = (printed, due, took)
printed_ends run Asked Due NoJob printed answers due took = (printed, due, took)
printed_ends run Asked Due Bounded printed answers due took = (printed, due, took)
printed_ends run Asked Due NotAccepted printed answers due took = (printed, due, took)
printed_ends run Asked Due BadInstance printed answers due took = (printed, due, took)
printed_ends run Asked Due BadPlan printed answers due took = (printed, due, took)
printed_ends run Asked Due ReadFault printed answers due took = absurd answers
printed_ends run Asked Due WriteFault printed answers due took = absurd answers
printed_ends run Asked Due OutOfMemory printed answers due took = absurd answers

module _ {Job : Type 0} (claims : Claims Job) (shown : AreShown claims) where
  due_answers : (words : List (List ℕ)) (before after : FilesData) (status : Status) (printed : List ℕ) → IsDue claims words before after status printed → IsAnswering status
  due_answers words before after status printed (inl refused) = subst IsAnswering (sym refused.1) tt
  due_answers words before after status printed (inr (job, named, due)) = any_answers status (shown.answers job before after status printed due)

  module _ (run : RunData) (status : Status)
      (ends : IsOutcome run (AsksFor claims run.words run.files_before) (IsDue claims run.words run.files_before run.files_after) status) where
    no_job_ends : NameNone claims run.words → (status ≡ NoJob) ⊎ (status ≡ WriteFault) ⊎ (status ≡ OutOfMemory)
    no_job_ends none =
        by_outcome run (AsksFor claims run.words run.files_before) (IsDue claims run.words run.files_before run.files_after)
        (λ s. (s ≡ NoJob) ⊎ (s ≡ WriteFault) ⊎ (s ≡ OutOfMemory)) status ends
        (λ s printed due. elim due [ inl refused ↦ inl refused.1 | inr named ↦ absurd (none named.0 named.1) ])
        (λ fault. absurd (none fault.1.0 fault.1.1)) (λ fault. inr (inl refl)) (inr (inr refl))

    no_job_said : status ≡ NoJob → NameNone claims run.words
    no_job_said =
        by_outcome run (AsksFor claims run.words run.files_before) (IsDue claims run.words run.files_before run.files_after) (λ s. s ≡ NoJob → NameNone claims run.words) status ends
        (λ s printed due same. elim due [
          | inl refused ↦ refused.0
          | inr named ↦ absurd (subst IsOfJob same (shown.answers named.0 run.files_before run.files_after s printed named.2))
        ])
        (λ fault same. absurd (never_read same)) (λ fault same. absurd (never_write same)) (λ same. absurd (never_memory same))
      where
        never_read : ReadFault ≡ NoJob → ⊥
        never_read same = cc

        never_write : WriteFault ≡ NoJob → ⊥
        never_write same = cc

        never_memory : OutOfMemory ≡ NoJob → ⊥
        never_memory same = cc

    module _ (job : Job) (named : claims.Names run.words job) where
      -- what is due is due for this job
      its_due : (s : Status) (printed : List ℕ) → IsDue claims run.words run.files_before run.files_after s printed
          → claims.Due job run.files_before run.files_after s printed
      its_due s printed (inl refused) = absurd (refused.0 job named)
      its_due s printed (inr (other, names, due)) =
          subst (λ (j : Job). claims.Due j run.files_before run.files_after s printed) (shown.once run.words other job names named) due

      -- where each file that is asked for is read, no read fault is told
      both : true ≡ false → ⊥
      both same = cc

      never : IsRead claims run job → HasReadFault run.files_before run.files_after (AsksFor claims run.words run.files_before) → ⊥
      never read (file, (other, names, asks), failed) =
          let its = subst (λ (j : Job). claims.Asks j run.files_before file) (shown.once run.words other job names named) asks in
          elim failed [
            | inl rose ↦ (read file its).1 rose
            | inr lost ↦ both (sym (read file its).0 ∙ lost)
          ]

      unfit_ends : (why : Status) → claims.Unfit job run.files_before why
          → (status ≡ why) ⊎ ((status ≡ ReadFault) × ¬ IsRead claims run job) ⊎ (status ≡ WriteFault) ⊎ (status ≡ OutOfMemory)
      unfit_ends why unfit =
          by_outcome run (AsksFor claims run.words run.files_before) (IsDue claims run.words run.files_before run.files_after)
          (λ s. (s ≡ why) ⊎ ((s ≡ ReadFault) × ¬ IsRead claims run job) ⊎ (s ≡ WriteFault) ⊎ (s ≡ OutOfMemory)) status ends
          (λ s printed due. inl (shown.unfit job run.files_before run.files_after s why printed unfit (its_due s printed due)))
          (λ fault. inr (inl (refl, λ read. never read fault))) (λ fault. inr (inr (inl refl))) (inr (inr (inr refl)))

      fit_ends : claims.Fit job run.files_before → IsRead claims run job → ¬ HasWriteFault run.sink_before run.sink_after
          → claims.FitStatus job status ⊎ (status ≡ OutOfMemory)
      fit_ends fit read unfailed =
          by_outcome run (AsksFor claims run.words run.files_before) (IsDue claims run.words run.files_before run.files_after)
          (λ s. claims.FitStatus job s ⊎ (s ≡ OutOfMemory)) status ends
          (λ s printed due. inl (shown.fit job run.files_before run.files_after s printed fit (its_due s printed due)))
          (λ fault. absurd (never read fault)) (λ fault. absurd (unfailed fault)) (inr refl)

  module _ (run : RunData) (answer : Result Answer Stop) (status : Status)
      (ends : IsEnd answer run.sink_before.taken run.sink_after.taken run.sink_before.faults run.sink_after.faults status) where
    -- how the run ends, from what is due and how it was given
    run_ends : IfOk answer (λ a. IsDue claims run.words run.files_before run.files_after a.status (answer_text a))
        → (answer ≡ Err Read → HasReadFault run.files_before run.files_after (AsksFor claims run.words run.files_before))
        → IsOutcome run (AsksFor claims run.words run.files_before) (IsDue claims run.words run.files_before run.files_after) status
    run_ends due read = by_answer answer ends due read
      where
        by_answer : (a : Result Answer Stop) → IsEnd a run.sink_before.taken run.sink_after.taken run.sink_before.faults run.sink_after.faults status
            → IfOk a (λ a. IsDue claims run.words run.files_before run.files_after a.status (answer_text a))
            → (a ≡ Err Read → HasReadFault run.files_before run.files_after (AsksFor claims run.words run.files_before))
            → IsOutcome run (AsksFor claims run.words run.files_before) (IsDue claims run.words run.files_before run.files_after) status
        by_answer (Ok a) (inl (same, took, quiet)) due read =
            subst (IsOutcome run (AsksFor claims run.words run.files_before) (IsDue claims run.words run.files_before run.files_after)) (sym same)
            (printed_ends run (AsksFor claims run.words run.files_before) (IsDue claims run.words run.files_before run.files_after) a.status (answer_text a)
            (due_answers run.words run.files_before run.files_after a.status (answer_text a) due) due took)
        by_answer (Ok a) (inr (same, front, rose)) due read =
            subst (IsOutcome run (AsksFor claims run.words run.files_before) (IsDue claims run.words run.files_before run.files_after)) (sym same) (rose, ((answer_text a), (a.status, due), front))
        by_answer (Err Read) (same, nothing, quiet) due read =
            subst (IsOutcome run (AsksFor claims run.words run.files_before) (IsDue claims run.words run.files_before run.files_after)) (sym same) (read refl, nothing)
        by_answer (Err Memory) (same, nothing, quiet) due read =
            subst (IsOutcome run (AsksFor claims run.words run.files_before) (IsDue claims run.words run.files_before run.files_after)) (sym same) nothing

    -- a failed read is told by the status, and a failed write
    reads_stay : FilesStay run.files_before run.files_after (AsksFor claims run.words run.files_before) (answer ≡ Err Read)
        → FilesStay run.files_before run.files_after (AsksFor claims run.words run.files_before) (status ≡ ReadFault)
    reads_stay stay = record {
      held = stay.held;
      told = stay.told;
      later = stay.later;
      others = stay.others;
      came_others = stay.came_others;
      unfailed = λ other. stay.unfailed (λ stopped. other (stops answer ends stopped));
    }
      where
        stops : (a : Result Answer Stop) → IsEnd a run.sink_before.taken run.sink_after.taken run.sink_before.faults run.sink_after.faults status
            → a ≡ Err Read → status ≡ ReadFault
        stops (Ok a) ended stopped = cc stopped
        stops (Err Read) ended stopped = ended.0
        stops (Err Memory) ended stopped = cc stopped

    writes_stay : run.sink_before.faults ≤ run.sink_after.faults → SinkStays run.sink_before run.sink_after (status ≡ WriteFault)
    writes_stay later = record { later = later; unfailed = λ other. quiet answer ends other }
      where
        quiet : (a : Result Answer Stop) → IsEnd a run.sink_before.taken run.sink_after.taken run.sink_before.faults run.sink_after.faults status
            → ¬ (status ≡ WriteFault) → run.sink_after.faults ≡ run.sink_before.faults
        quiet (Ok a) (inl ended) other = ended.2
        quiet (Ok a) (inr ended) other = absurd (other ended.0)
        quiet (Err Read) ended other = ended.2
        quiet (Err Memory) ended other = ended.2

    -- all that is claimed of a run holds where the answer is due and was given
    pub headline : (code : ℕ) → code ≡ code_of status
        → IfOk answer (λ a. IsDue claims run.words run.files_before run.files_after a.status (answer_text a))
        → (answer ≡ Err Read → HasReadFault run.files_before run.files_after (AsksFor claims run.words run.files_before))
        → FilesStay run.files_before run.files_after (AsksFor claims run.words run.files_before) (answer ≡ Err Read)
        → run.sink_before.faults ≤ run.sink_after.faults → IsHeadline claims run code
    headline code is due read files later =
        let outcome = run_ends due read in record {
          status = status;
          exit_status = is;
          outcome = outcome;
          no_job = no_job_said run status outcome;
          no_job_where = no_job_ends run status outcome;
          refused_where = λ job why named. unfit_ends run status outcome job named why;
          complete = fit_ends run status outcome;
          files = reads_stay files;
          sink = writes_stay later;
        }
