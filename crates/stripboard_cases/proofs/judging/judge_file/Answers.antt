use Rattle.std.proofs.Common.{Some, None}
use Rattle.stripboard_cases.proofs.Counts.{count_unread, on_ok}
use Rattle.stripboard_cases.proofs.judging.judge_file.Goals as goal

pub returns-in-Ok-clause-counted : goal.returns-in-Ok-clause-counted
returns-in-Ok-clause-counted g c = on_ok c.judge_cases.result (λ more. (Some c.in-Ok.cases, c.in-Ok.ensures.read, more)) c.judge_cases.ensures

pub returns-in_ok-format-in-Err-2-clause-counted : goal.returns-in_ok-format-in-Err-2-clause-counted
returns-in_ok-format-in-Err-2-clause-counted g c = (None, tt, λ files is. count_unread files c.args.tally.now.cases c.args.tally.now.differing c.args.tally.now.is_unread is)
