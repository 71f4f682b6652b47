use Rattle.std.proofs.Common.{◌≡◌, ℕ, true, length, None, Some, sym, subst, ◌∙◌}
use Rattle.std.proofs.lemmas.List.{length-map}
use Rattle.strip_model.specs.Film.{FilmData}
use Rattle.strip_model.specs.Order.{IsOrder}
use Rattle.strip_model.specs.FilmOf.{film_of}
use Rattle.strip_text.specs.Checks.{below, first_fault}
use Rattle.strip_proof.specs.Plan.{plan_data}
use Rattle.strip_check.specs.Reasons.{cost_check, is_order, pair_check}
use Rattle.strip_check.specs.declared.verdict.Reason.TheVariants.{NotAnOrder}
use Rattle.strip_check.proofs.Places.{found_behind, past_behind}
use Rattle.strip_check.proofs.Tests.{order_decides}
use Rattle.strip_check.proofs.order.against_order.Goals as goal

pub returns-in-Some : goal.returns-in-Some
returns-in-Some c =
    let film : FilmData = film_of c.args.inst.now in
    let order = c.args.plan.now.order.items in
    let is : is_order (length film.casts) order ≡ true = rw c.deref.ensures.value at (sym c.is_an_order.ensures ∙ c.if-not-is_an_order.false) in
    let found : first_fault (below (length film.pairs) (pair_check film.pairs order)) ≡ Some c.in-Some.reason
    = sym (rw (c.pairs.ensures.pairs, c.deref-2.ensures.value) at c.in-Some.ensures) in
    sym (found_behind (is_order (length film.casts) order) NotAnOrder (below (length film.pairs) (pair_check film.pairs order))
    (cost_check film (plan_data c.args.plan.now)) is c.in-Some.reason found)

pub against_cost-requires : goal.against_cost-requires
against_cost-requires c =
    let film : FilmData = film_of c.args.inst.now in
    let order = c.args.plan.now.order.items in
    let is : is_order (length film.casts) order ≡ true = rw c.deref.ensures.value at (sym c.is_an_order.ensures ∙ c.if-not-is_an_order.false) in
    subst (λ (n : ℕ). IsOrder n order) (length-map c.args.inst.now.scenes (λ scene. scene.cast)) ((order_decides (length film.casts) order).0 is)

pub returns : goal.returns
returns c =
    let film : FilmData = film_of c.args.inst.now in
    let order = c.args.plan.now.order.items in
    let is : is_order (length film.casts) order ≡ true = rw c.deref.ensures.value at (sym c.is_an_order.ensures ∙ c.if-not-is_an_order.false) in
    let none : first_fault (below (length film.pairs) (pair_check film.pairs order)) ≡ None
    = sym (rw (c.pairs.ensures.pairs, c.deref-2.ensures.value) at c.in_default.ensures) in
    c.against_cost.ensures
    ∙ sym (past_behind (is_order (length film.casts) order) NotAnOrder (below (length film.pairs) (pair_check film.pairs order))
    (cost_check film (plan_data c.args.plan.now)) is none)
