use Rattle.strip_lines.proofs.Later.{counts_more, counts_stay, counts_most}
use Rattle.strip_lines.proofs.laws.a_later_path_counts_one_more.Goals as goal

pub returns-clause-more : goal.returns-clause-more
returns-clause-more c = λ rules last next test is unfinished after passes. counts_more rules is last next test after unfinished passes

pub returns-clause-stays : goal.returns-clause-stays
returns-clause-stays c = λ rules last next test is after. counts_stay rules is last next test after

pub returns-clause-most : goal.returns-clause-most
returns-clause-most c = λ rules last test is. counts_most rules is last test
