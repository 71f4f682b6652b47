use Rattle.strip_proof.proofs.back.Back.{says_it, says_it_bare}
use Rattle.strip_proof.proofs.laws.written_plans_read_back.Goals as goal

pub returns-clause-whole : goal.returns-clause-whole
returns-clause-whole c = says_it

pub returns-clause-bare : goal.returns-clause-bare
returns-clause-bare c = says_it_bare
