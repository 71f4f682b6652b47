use Rattle.strip_table.proofs.Outcomes.{one_outcome, some_outcome}
use Rattle.strip_table.proofs.laws.a_put_has_one_outcome.Goals as goal

pub returns : goal.returns
returns c = record {
  some = some_outcome;
  one = λ buckets number bucket after other known answer given is put again. one_outcome bucket known after other answer given is.once put again;
}
