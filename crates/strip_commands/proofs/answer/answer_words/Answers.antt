use Rattle.std.proofs.Common.{inr}
use Rattle.strip_words.specs.Shown.{job_data, texts}
use Rattle.strip_answer.specs.Claims.{AsksFor}
use Rattle.strip_answer.proofs.Endings.{stay_wider}
use Rattle.strip_answer.proofs.Given.{of_ok}
use Rattle.strip_commands.specs.Due.{IsFileOf, board_claims}
use Rattle.strip_commands.proofs.answer.answer_words.Goals as goal

pub returns-in-Ok-clause-files : goal.returns-in-Ok-clause-files
returns-in-Ok-clause-files g c =
    stay_wider _ _ (IsFileOf (job_data c.in-Ok.job) (g.F.Files.state c.args.files.now)) (AsksFor board_claims (texts c.args.words.now) (g.F.Files.state c.args.files.now)) _
    (λ name its. (job_data c.in-Ok.job, c.in-Ok.ensures.named, its)) c.answer_job.ensures.files

pub returns-in-Ok-clause-due : goal.returns-in-Ok-clause-due
returns-in-Ok-clause-due g c =
    of_ok _ _ c.answer_job.result (λ answer due. inr (job_data c.in-Ok.job, c.in-Ok.ensures.named, due)) c.answer_job.ensures.due

pub returns-in-Ok-clause-read : goal.returns-in-Ok-clause-read
returns-in-Ok-clause-read g c = λ is.
    let fault = c.answer_job.ensures.read is in
    (fault.0, (job_data c.in-Ok.job, c.in-Ok.ensures.named, fault.1), fault.2)
