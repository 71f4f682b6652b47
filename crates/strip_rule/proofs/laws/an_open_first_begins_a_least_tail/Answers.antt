use Rattle.strip_rule.proofs.Open.{open_is, open_begins_least}
use Rattle.strip_rule.proofs.laws.an_open_first_begins_a_least_tail.Goals as goal

pub returns-clause-best : goal.returns-clause-best
returns-clause-best c = λ film bound promise is. open_begins_least film is

pub returns-clause-ready : goal.returns-clause-ready
returns-clause-ready c = λ film bound promise is set scene lies member. (open_is film set scene member).0
