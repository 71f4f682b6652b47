use Rattle.strip_film.proofs.Paths.{rest_lies}
use Rattle.strip_film.proofs.laws.what_remains_lies_in_the_film.Goals as goal

pub returns : goal.returns
returns c film path is = rest_lies film path is
