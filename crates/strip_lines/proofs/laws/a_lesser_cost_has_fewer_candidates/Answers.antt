use Rattle.strip_lines.proofs.Lesser.{few_stay, ways_stay}
use Rattle.strip_lines.proofs.laws.a_lesser_cost_has_fewer_candidates.Goals as goal

pub returns : goal.returns
returns c = record {
  few = few_stay;
  ways = λ rules lesser cost set below. ways_stay rules lesser cost below set;
}
