use Rattle.strip_reports.proofs.Paid.{said_pay, total_pay}
use Rattle.strip_reports.proofs.laws.the_total_of_days_is_the_pay.Goals as goal

pub returns-clause-sums : goal.returns-clause-sums
returns-clause-sums c = total_pay

pub returns-clause-said : goal.returns-clause-said
returns-clause-said c = said_pay
