use Rattle.strip_trim.proofs.Counted.{no_longer, no_more_of}
use Rattle.strip_trim.proofs.laws.a_trimmed_list_is_no_longer.Goals as goal

pub returns-clause-length : goal.returns-clause-length
returns-clause-length c = no_longer

pub returns-clause-each : goal.returns-clause-each
returns-clause-each c = λ rules lines trimmed test are. no_more_of rules lines trimmed are test
