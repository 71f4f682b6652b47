use Rattle.std.proofs.Common.{◌≡◌, ◌*◌, ◌≤◌}
use Rattle.strip_mask.specs.Sums.{sum_below}
use Rattle.strip_model.specs.FilmOf.{film_of}
use Rattle.strip_reports.specs.Days.{pay_at}
use Rattle.strip_reports.proofs.summary.pay_of.Given as goal

-- what is paid at the places so far
abbrev pub invariant-loop-place : goal.invariant-loop-place
invariant-loop-place l = record {
  pay : l.pay ≡ sum_below l.place (pay_at (film_of l.inst) l.order);
  small : l.pay ≤ l.place * 6336000000000;
}
