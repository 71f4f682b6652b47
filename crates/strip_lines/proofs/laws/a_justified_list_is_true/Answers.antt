use Rattle.strip_lines.proofs.Justified.{known_is_true, lines_are_true}
use Rattle.strip_lines.proofs.laws.a_justified_list_is_true.Goals as goal

pub returns-clause-lines : goal.returns-clause-lines
returns-clause-lines c = lines_are_true

pub returns-clause-known : goal.returns-clause-known
returns-clause-known c = λ rules lines set is bounds begin are lies. known_is_true rules lines is bounds begin are set lies
