use Rattle.strip_lines.proofs.Enumerated.{counted_once, counted_none}
use Rattle.strip_lines.proofs.laws.paths_are_counted_once.Goals as goal

pub returns-clause-once : goal.returns-clause-once
returns-clause-once c = λ film path is unfinished. counted_once film is path unfinished

pub returns-clause-none : goal.returns-clause-none
returns-clause-none c = λ film test is fails. counted_none film is test fails
