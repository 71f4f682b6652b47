use Rattle.strip_reduce.proofs.Chain.{reduced_ends, reduced_reached}
use Rattle.strip_reduce.proofs.laws.the_classes_stand_for_the_film.Goals as goal

pub returns : goal.returns
returns c = record {
  ended = reduced_ends;
  limits = λ film is. (reduced_reached film is).is;
  stands = λ film is. (reduced_reached film is).stands;
}
