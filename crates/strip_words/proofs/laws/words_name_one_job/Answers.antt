use Rattle.strip_words.proofs.OneJob.{one_job}
use Rattle.strip_words.proofs.laws.words_name_one_job.Goals as goal

pub returns : goal.returns
returns c = one_job
