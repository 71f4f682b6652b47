use Rattle.strip_reduce.proofs.Begun.{is_film_of}
use Rattle.strip_reduce.proofs.Limits.{limits-start}
use Rattle.strip_reduce.proofs.laws.reductions_begin_within_the_limits.Goals as goal

pub returns : goal.returns
returns c = record { film = is_film_of; start = limits-start }
