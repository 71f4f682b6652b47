use Rattle.strip_model.proofs.Moves.{stand_together, swapped_together}
use Rattle.strip_model.proofs.laws.equal_casts_can_stand_together.Goals as goal

pub returns : goal.returns
returns c = record {
  together = λ film before between behind a b same. stand_together film a b same before between behind;
  swapped = λ film before behind a b same. swapped_together film a b same before behind;
}
