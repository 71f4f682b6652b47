use Rattle.strip_lines.proofs.Shares.{counted_none, counted_then}
use Rattle.strip_lines.proofs.laws.lines_stay_counted.Goals as goal

pub returns-clause-none : goal.returns-clause-none
returns-clause-none c = counted_none

pub returns-clause-more : goal.returns-clause-more
returns-clause-more c = λ rules cost depth part tasks lines last last_then number number_then next line is counted lt unfinished after lies candidate same enlists. counted_then rules cost depth tasks is part lt last last_then number number_then next unfinished after lies candidate enlists lines line same counted
