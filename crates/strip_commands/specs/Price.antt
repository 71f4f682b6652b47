-- The command `price`: the plan of the order that the film's rows have.
use Rattle.std.specs.Prelude.{◌≡◌, ◌⊎◌, ℕ, ◌<◌, ◌≤◌, List, Ok, codes}
use Rattle.strip_model.specs.Order.{IsKeptOrder}
use Rattle.strip_model.specs.Data.{InstanceData}
use Rattle.strip_model.specs.FilmOf.{film_of}
use Rattle.strip_reduce.specs.Reduction.{class_count}
use Rattle.strip_proof.specs.Rows.{bare_text}
use Rattle.strip_proof.specs.Text.{says}
use Rattle.strip_check.specs.declared.verdict.Reason.{Reason}
use Rattle.strip_check.specs.declared.verdict.Verdict.TheVariants.{Refused}
use Rattle.strip_check.specs.Accepted.{IsAccepted}
use Rattle.strip_check.specs.Reasons.{verdict_of}
use Rattle.strip_check.specs.Told.{told_of}
use Rattle.strip_solve.specs.Own.{own_order}
use Rattle.strip_solve.specs.Priced.{priced_plan}
use Rattle.strip_answer.specs.declared.status.Status.{Status}
use Rattle.strip_answer.specs.declared.status.Status.TheVariants.{Done, NotAccepted}
use Rattle.strip_answer.specs.Rows.{told_row}
use Rattle.strip_commands.specs.Film.{IsTooMany}

-- the rows keep the pairs
abbrev pub KeepsPairs : InstanceData → Type 0
KeepsPairs inst = IsKeptOrder (film_of inst) (own_order (film_of inst))

-- the rows keep the pairs, and their plan is printed: the text says it, and a checker accepts it
pub record IsPricedPlan (inst : InstanceData) (status : Status) (printed : List ℕ) : Type 0 where
  pub kept : KeepsPairs inst
  pub done : status ≡ Done
  pub text : printed ≡ bare_text inst (priced_plan (film_of inst))
  pub same : says inst printed ≡ Ok (priced_plan (film_of inst))
  pub accepted : IsAccepted (film_of inst) (priced_plan (film_of inst))

-- the rows break a pair, and the checker's reason against their plan is told
pub record IsBrokenPlan (inst : InstanceData) (status : Status) (printed : List ℕ) : Type 0 where
  pub broken : ¬ KeepsPairs inst
  pub refused : status ≡ NotAccepted
  pub reason : Reason
  pub verdict : verdict_of (film_of inst) (priced_plan (film_of inst)) ≡ Refused reason
  pub text : printed ≡ told_row (codes "refused") (told_of reason)

-- the status and the text that are due for an instance: the plan of its rows or the reason against it, or that it
-- has too many classes
pub record IsPriced (inst : InstanceData) (status : Status) (printed : List ℕ) : Type 0 where
  pub plan : class_count (film_of inst) ≤ 64 → IsPricedPlan inst status printed ⊎ IsBrokenPlan inst status printed
  pub too_many : 64 < class_count (film_of inst) → IsTooMany inst status printed

-- the statuses with which a film that can be priced ends
abbrev pub IsPriceStatus : Status → Type 0
IsPriceStatus status = (status ≡ Done) ⊎ (status ≡ NotAccepted)
