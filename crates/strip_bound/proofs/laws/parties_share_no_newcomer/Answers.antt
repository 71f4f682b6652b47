use Rattle.strip_bound.proofs.Party.{newcomer_away, newcomers_apart}
use Rattle.strip_bound.proofs.laws.parties_share_no_newcomer.Goals as goal

pub returns-clause-apart : goal.returns-clause-apart
returns-clause-apart c film set many first later place other actor less here there = newcomers_apart film set many first later place other actor less here there

pub returns-clause-away : goal.returns-clause-away
returns-clause-away c film set many count place actor there = (newcomer_away film set many count place actor there).1
