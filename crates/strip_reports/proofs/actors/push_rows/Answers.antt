use Rattle.std.proofs.Common.{◌≡◌, ◌+◌, ◌++◌, length, append-nil, arith, sym, ap, ◌∙◌}
use Rattle.std.proofs.lemmas.List.{length-map}
use Rattle.strip_mask.specs.Sums.{sum_below}
use Rattle.strip_mask.proofs.Sums.{sum_below-zero, sum_below-more}
use Rattle.strip_model.specs.Data.{ActorData}
use Rattle.strip_model.specs.FilmOf.{film_of}
use Rattle.strip_reports.specs.Html.{row_text}
use Rattle.strip_reports.specs.Actors.{actor_cells, earned_by}
use Rattle.strip_reports.proofs.Pieces.{place_next}
use Rattle.strip_reports.proofs.actors.push_rows.Goals as goal

pub loop-actor-init : goal.loop-actor-init
loop-actor-init c = record {
  page = sym (append-nil _);
  worked = sym (sum_below-zero _);
  work_pay = sym (sum_below-zero _);
  held = sym (sum_below-zero _);
  hold_pay = sym (sum_below-zero _);
  few_worked = omega arith;
  few_held = omega arith;
  small_work = omega arith;
  small_hold = omega arith;
}

pub loop-actor-preserved : goal.loop-actor-preserved
loop-actor-preserved c =
    let film = film_of c.args.inst.now in
    let crews = c.args.crews.now in
    let k = c.loop-actor.actor in
    let before = c.loop-actor.invariant in
    let earned = c.earned_by-earned.ensures in
    let worked = ap (λ sum. sum.worked) c.plus-total.ensures in
    let work_pay = ap (λ sum. sum.work_pay) c.plus-total.ensures in
    let held = ap (λ sum. sum.held) c.plus-total.ensures in
    let hold_pay = ap (λ sum. sum.hold_pay) c.plus-total.ensures in
    record {
      page = c.in_ok-push_actor.ensures ∙ ap (λ text. text ++ row_text (actor_cells c.args.inst.now crews k)) before.page
          ∙ place_next row_text (actor_cells c.args.inst.now crews) c.args.page.now.items k;
      worked = worked ∙ (λ i. before.worked i + (earned.earned i).worked) ∙ sym (sum_below-more k (λ actor. (earned_by film crews actor).worked));
      work_pay = work_pay ∙ (λ i. before.work_pay i + (earned.earned i).work_pay) ∙ sym (sum_below-more k (λ actor. (earned_by film crews actor).work_pay));
      held = held ∙ (λ i. before.held i + (earned.earned i).held) ∙ sym (sum_below-more k (λ actor. (earned_by film crews actor).held));
      hold_pay = hold_pay ∙ (λ i. before.hold_pay i + (earned.earned i).hold_pay) ∙ sym (sum_below-more k (λ actor. (earned_by film crews actor).hold_pay));
      few_worked = omega (arith, worked, before.few_worked, earned.worked);
      few_held = omega (arith, held, before.few_held, earned.held);
      small_work = omega (arith, work_pay, before.small_work, earned.work_pay);
      small_hold = omega (arith, hold_pay, before.small_hold, earned.hold_pay);
    }

pub returns-clause-sums : goal.returns-clause-sums
returns-clause-sums c =
    let film = film_of c.args.inst.now in
    let crews = c.args.crews.now in
    let sums = c.loop-actor.invariant in
    let all : c.loop-actor.actor ≡ length film.rates
    = omega (arith, c.loop-actor-test.false, c.loop-actor.auto.actor-end, c.actors-actor-end.ensures.count, length-map c.args.inst.now.actors (λ (actor : ActorData). actor.rate)) in
    λ i. record {
      worked = (sums.worked ∙ ap (λ n. sum_below n (λ actor. (earned_by film crews actor).worked)) all) i;
      work_pay = (sums.work_pay ∙ ap (λ n. sum_below n (λ actor. (earned_by film crews actor).work_pay)) all) i;
      held = (sums.held ∙ ap (λ n. sum_below n (λ actor. (earned_by film crews actor).held)) all) i;
      hold_pay = (sums.hold_pay ∙ ap (λ n. sum_below n (λ actor. (earned_by film crews actor).hold_pay)) all) i;
    }
