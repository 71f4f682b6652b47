use Rattle.strip_bound.specs.Bounds.{bound}
use Rattle.strip_lines.specs.Lines.{rules_of}
use Rattle.strip_lines.proofs.laws.the_rules_are_true.Goals as goal

pub returns-clause-bounds : goal.returns-clause-bounds
returns-clause-bounds c = λ kind film is set lies. c.the_bounds_are_true.ensures.finish kind film set is lies

pub returns-clause-begin : goal.returns-clause-begin
returns-clause-begin c = λ kind film is. c.an_open_first_begins_a_least_tail.ensures.best film (bound kind film) (rules_of kind film).promise is

pub returns-clause-ready : goal.returns-clause-ready
returns-clause-ready c = λ kind film is. c.an_open_first_begins_a_least_tail.ensures.ready film (bound kind film) (rules_of kind film).promise is
