use Rattle.strip_lines.proofs.Length.{number_most, number_all, few_orders}
use Rattle.strip_lines.proofs.laws.paths_are_few.Goals as goal

pub returns-clause-most : goal.returns-clause-most
returns-clause-most c = number_most

pub returns-clause-all : goal.returns-clause-all
returns-clause-all c = number_all

pub returns-clause-orders : goal.returns-clause-orders
returns-clause-orders c = few_orders
