use Rattle.strip_lines.proofs.Shares.{candidate_is, is_candidate_from}
use Rattle.strip_lines.proofs.laws.candidates_are_open.Goals as goal

pub returns : goal.returns
returns c = λ rules cost path within. (candidate_is rules cost path within, is_candidate_from rules cost path)
