use Rattle.strip_bound.specs.Falling.{by_falling}
use Rattle.strip_bound.proofs.Fall.{Before, falls, pairs_from, same_members}
use Rattle.strip_bound.proofs.laws.lists_fall_by_value.Goals as goal

pub returns-clause-fall : goal.returns-clause-fall
returns-clause-fall c = λ value actors rising. pairs_from (Before value) (by_falling value actors) (falls value actors rising)

pub returns-clause-members : goal.returns-clause-members
returns-clause-members c = same_members
