use Rattle.std.proofs.Common.{refl}
use Rattle.strip_instance.proofs.pairs.Fit.{none_found}
use Rattle.strip_instance.proofs.pairs.Ways.{found_shortest, no_answer}
use Rattle.strip_instance.proofs.laws.the_shortest_way_is_found.Goals as goal

pub returns-clause-found : goal.returns-clause-found
returns-clause-found c = λ n pairs from to way fit apart is. found_shortest n pairs fit.known from to way apart is

pub returns-clause-none : goal.returns-clause-none
returns-clause-none c = λ n pairs from to fit apart. (
  λ none leads. no_answer n pairs fit.known from to leads.0 fit.no_cycle none leads.1,
  λ never. none_found n pairs from to _ fit apart never refl,
)
