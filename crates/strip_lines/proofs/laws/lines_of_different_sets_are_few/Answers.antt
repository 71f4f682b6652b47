use Rattle.strip_lines.proofs.Apart.{apart_few, apart_ways}
use Rattle.strip_lines.proofs.laws.lines_of_different_sets_are_few.Goals as goal

pub returns : goal.returns
returns c = record {
  most = λ rules cost lines is apart left. apart_few rules is cost lines apart left;
  sets = λ rules cost set lines is apart left. apart_ways rules is cost set lines apart left;
}
