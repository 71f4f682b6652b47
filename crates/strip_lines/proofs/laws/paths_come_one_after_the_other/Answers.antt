use Rattle.strip_film.proofs.Ranks.{earlier-itself, earlier_longer, earlier_total, earlier_trans}
use Rattle.strip_lines.proofs.Ordered.{by_number, parted}
use Rattle.strip_lines.proofs.laws.paths_come_one_after_the_other.Goals as goal

pub returns : goal.returns
returns c = record {
  never = earlier-itself;
  transitive = earlier_trans;
  total = earlier_total;
  longer = λ rules set scene a more. earlier_longer rules set a scene more;
  parted = parted;
  by_number = by_number;
}
