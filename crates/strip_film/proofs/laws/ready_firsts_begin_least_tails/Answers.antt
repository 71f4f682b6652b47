use Rattle.std.proofs.Common.{length}
use Rattle.strip_mask.proofs.Below.{is_set_below}
use Rattle.strip_film.proofs.Least.{some_begins_least}
use Rattle.strip_film.proofs.laws.ready_firsts_begin_least_tails.Goals as goal

pub returns : goal.returns
returns c = λ film bound promise is set lies some. some_begins_least film is set (is_set_below (length film.casts) set is.scene_count.1 lies) some
