use Rattle.std.proofs.Common.{◌≡◌, ◌*◌, ◌++◌, ◌≤◌, map}
use Rattle.std.specs.List.{range_with_len}
use Rattle.strip_mask.specs.Sums.{sum_below}
use Rattle.strip_model.specs.FilmOf.{film_of}
use Rattle.strip_reports.specs.Html.{rows_text}
use Rattle.strip_reports.specs.Actors.{actor_cells, earned_by}
use Rattle.strip_reports.proofs.actors.push_rows.Given as goal

abbrev pub invariant-loop-actor : goal.invariant-loop-actor
invariant-loop-actor l = record {
  page : l.page.items ≡ l.fn.page.items ++ rows_text (map (actor_cells l.inst l.crews) (range_with_len 0 l.actor));
  worked : l.total.worked ≡ sum_below l.actor (λ actor. (earned_by (film_of l.inst) l.crews actor).worked);
  work_pay : l.total.work_pay ≡ sum_below l.actor (λ actor. (earned_by (film_of l.inst) l.crews actor).work_pay);
  held : l.total.held ≡ sum_below l.actor (λ actor. (earned_by (film_of l.inst) l.crews actor).held);
  hold_pay : l.total.hold_pay ≡ sum_below l.actor (λ actor. (earned_by (film_of l.inst) l.crews actor).hold_pay);
  few_worked : l.total.worked ≤ l.actor * 19800;
  few_held : l.total.held ≤ l.actor * 19800;
  small_work : l.total.work_pay ≤ l.actor * 19800000000000;
  small_hold : l.total.hold_pay ≤ l.actor * 19800000000000;
}
