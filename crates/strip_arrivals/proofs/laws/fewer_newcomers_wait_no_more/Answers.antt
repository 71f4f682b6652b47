use Rattle.strip_arrivals.proofs.Pending.{wait_no_more}
use Rattle.strip_arrivals.proofs.laws.fewer_newcomers_wait_no_more.Goals as goal

pub returns : goal.returns
returns c = λ film set group newcomers fewer small fits within. wait_no_more film set group small newcomers fewer fits within
