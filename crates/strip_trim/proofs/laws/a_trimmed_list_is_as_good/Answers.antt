use Rattle.strip_trim.proofs.Known.{justified, known_reached, known_whole}
use Rattle.strip_trim.proofs.laws.a_trimmed_list_is_as_good.Goals as goal

pub returns-clause-justified : goal.returns-clause-justified
returns-clause-justified c = justified

pub returns-clause-known : goal.returns-clause-known
returns-clause-known c = known_whole

pub returns-clause-reached : goal.returns-clause-reached
returns-clause-reached c = λ rules lines trimmed set are reached. known_reached rules lines trimmed are set reached
