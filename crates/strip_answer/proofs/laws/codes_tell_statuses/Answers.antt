use Rattle.std.proofs.Common.{◌≡◌, ◌∙◌, ◌==◌, ℕ, refl, sym, ap, if◌then◌else◌}
use Rattle.strip_answer.specs.declared.status.Status.{Status}
use Rattle.strip_answer.specs.declared.status.Status.TheVariants.{Done, NoJob, Bounded, NotAccepted, BadInstance, BadPlan, ReadFault, WriteFault, OutOfMemory}
use Rattle.strip_answer.specs.Status.{code_of}
use Rattle.strip_answer.proofs.laws.codes_tell_statuses.Goals as goal

-- the status of a code
abbrev status_of : ℕ → Status
status_of code =
    if code == 0 then Done else if code == 2 then NoJob else if code == 3 then Bounded else if code == 4 then NotAccepted
    else if code == 5 then BadInstance else if code == 6 then BadPlan else if code == 7 then ReadFault else if code == 8 then WriteFault else OutOfMemory

back : (status : Status) → status_of (code_of status) ≡ status
back Done = refl
back NoJob = refl
back Bounded = refl
back NotAccepted = refl
back BadInstance = refl
back BadPlan = refl
back ReadFault = refl
back WriteFault = refl
back OutOfMemory = refl

pub returns : goal.returns
returns c = λ a b same. sym (back a) ∙ ap status_of same ∙ back b
