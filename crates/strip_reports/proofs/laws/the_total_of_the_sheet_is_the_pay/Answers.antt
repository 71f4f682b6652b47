use Rattle.strip_reports.proofs.Total.{total_is_pay}
use Rattle.strip_reports.proofs.laws.the_total_of_the_sheet_is_the_pay.Goals as goal

pub returns : goal.returns
returns c = total_is_pay
