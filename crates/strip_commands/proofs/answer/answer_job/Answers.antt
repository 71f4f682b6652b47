use Rattle.std.proofs.Common.{◌≡◌, sym, subst}
use Rattle.strip_words.specs.Shown.{job_data}
use Rattle.strip_words.specs.declared.jobs.Job.{Job}
use Rattle.strip_io.specs.Files.{FilesData}
use Rattle.strip_answer.specs.Run.{FilesStay}
use Rattle.strip_commands.specs.Due.{IsFileOf}
use Rattle.strip_commands.proofs.answer.answer_job.Goals as goal

-- what stays of the files for this job
stays_for : (before after : FilesData) (failed : Type 0) (job given : Job) → job ≡ given → FilesStay before after (IsFileOf (job_data given) before) failed
    → FilesStay before after (IsFileOf (job_data job) before) failed
stays_for before after failed job given is = subst (λ (j : Job). FilesStay before after (IsFileOf (job_data j) before) failed) (sym is)

pub returns-in-Arrange-clause-files : goal.returns-in-Arrange-clause-files
returns-in-Arrange-clause-files g c = stays_for _ _ _ _ _ c.in-Arrange.is c.answer_plan.ensures.files

pub returns-in-Check-clause-files : goal.returns-in-Check-clause-files
returns-in-Check-clause-files g c = stays_for _ _ _ _ _ c.in-Check.is c.audit.ensures.files

pub returns-in-Convert-clause-files : goal.returns-in-Convert-clause-files
returns-in-Convert-clause-files g c = stays_for _ _ _ _ _ c.in-Convert.is c.answer_plan-in-Convert.ensures.files

pub returns-in-Dood-clause-files : goal.returns-in-Dood-clause-files
returns-in-Dood-clause-files g c = stays_for _ _ _ _ _ c.in-Dood.is c.answer_plan-in-Dood.ensures.files

pub returns-in-Sheet-clause-files : goal.returns-in-Sheet-clause-files
returns-in-Sheet-clause-files g c = stays_for _ _ _ _ _ c.in-Sheet.is c.answer_plan-in-Sheet.ensures.files

pub returns-in-Board-clause-files : goal.returns-in-Board-clause-files
returns-in-Board-clause-files g c = stays_for _ _ _ _ _ c.in-Board.is c.answer_plan-in-Board.ensures.files
