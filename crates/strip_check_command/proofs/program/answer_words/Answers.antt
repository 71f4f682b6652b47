use Rattle.std.proofs.Common.{inl, inr}
use Rattle.strip_words.specs.Plans.{PlanFilesData}
use Rattle.strip_words.specs.Shown.{plan_files_data, texts}
use Rattle.strip_answer.specs.Claims.{AsksFor}
use Rattle.strip_answer.proofs.Endings.{stay_wider}
use Rattle.strip_answer.specs.Both.{IsEither}
use Rattle.strip_answer.proofs.Given.{of_ok}
use Rattle.strip_check_command.specs.Claims.{audit_claims}
use Rattle.strip_check_command.proofs.program.answer_words.Goals as goal

pub returns-in-Ok-clause-due : goal.returns-in-Ok-clause-due
returns-in-Ok-clause-due g c =
    of_ok _ _ c.audit.result (λ answer due. inr (plan_files_data c.in-Ok.names, c.in-Ok.ensures.named, due)) c.audit.ensures.due

pub returns-in-Ok-clause-read : goal.returns-in-Ok-clause-read
returns-in-Ok-clause-read g c = λ is.
    let fault = c.audit.ensures.read is in
    (fault.0, (plan_files_data c.in-Ok.names, c.in-Ok.ensures.named, fault.1), fault.2)

pub returns-in-Ok-clause-files : goal.returns-in-Ok-clause-files
returns-in-Ok-clause-files g c =
    let names : PlanFilesData = plan_files_data c.in-Ok.names in
    stay_wider _ _ (IsEither names.film names.plan (g.F.Files.state c.args.files.now)) (AsksFor audit_claims (texts c.args.words.now) (g.F.Files.state c.args.files.now)) _ (λ name its. (names, c.in-Ok.ensures.named, its)) c.audit.ensures.files

pub returns-in_ok-no_job-in-Err-BadWords-clause-due : goal.returns-in_ok-no_job-in-Err-BadWords-clause-due
returns-in_ok-no_job-in-Err-BadWords-clause-due g c =
    inl (c.in-Err-BadWords.ensures.bad c.in-Err-BadWords.field-0-is, c.in_ok-no_job-in-Err-BadWords.ensures.status, c.in_ok-no_job-in-Err-BadWords.ensures.row)
