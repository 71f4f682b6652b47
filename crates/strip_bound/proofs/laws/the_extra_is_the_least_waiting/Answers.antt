use Rattle.std.proofs.Common.{length}
use Rattle.strip_mask.proofs.Below.{is_set_below}
use Rattle.strip_bound.proofs.Least.{extra_is_least}
use Rattle.strip_bound.proofs.Attained.{extra_is_attained}
use Rattle.strip_bound.proofs.laws.the_extra_is_the_least_waiting.Goals as goal

pub returns-clause-least : goal.returns-clause-least
returns-clause-least c = λ film set group scenes is lies is_group working each.
    extra_is_least film group set scenes is_group (is_set_below (length film.casts) set is.scene_count.1 lies) each

pub returns-clause-attained : goal.returns-clause-attained
returns-clause-attained c = λ film set group is lies is_group working.
    extra_is_attained film group set is_group (is_set_below (length film.casts) set is.scene_count.1 lies)
