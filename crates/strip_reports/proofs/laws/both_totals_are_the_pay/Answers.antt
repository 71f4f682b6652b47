use Rattle.std.proofs.Common.{◌*◌, length, slice_index, sym, ◌∙◌}
use Rattle.strip_mask.proofs.Sums.{sum_below-add}
use Rattle.strip_model.specs.FilmOf.{film_of}
use Rattle.strip_reports.specs.Days.{crews_of, hold_days, work_days}
use Rattle.strip_reports.proofs.Paid.{total_pay}
use Rattle.strip_reports.proofs.Total.{total_is_pay}
use Rattle.strip_reports.proofs.laws.both_totals_are_the_pay.Goals as goal

pub returns-clause-scenes : goal.returns-clause-scenes
returns-clause-scenes c = λ inst order. total_is_pay (film_of inst) order

pub returns-clause-actors : goal.returns-clause-actors
returns-clause-actors c = λ inst order is is_order.
    sym (sum_below-add (length (film_of inst).rates)
    (λ actor. slice_index (film_of inst).rates actor * work_days (crews_of (film_of inst) order) actor)
    (λ actor. slice_index (film_of inst).holds actor * hold_days (crews_of (film_of inst) order) actor))
    ∙ total_pay inst order is is_order
