use Rattle.std.proofs.Common.{◌≡◌, ℕ, List, ◌∙◌, length, ap, sym, subst}
use Rattle.strip_model.specs.Order.{IsKeptOrder, IsOrder}
use Rattle.strip_model.proofs.Counts.{length-order}
use Rattle.strip_reduce.specs.Oriented.{oriented}
use Rattle.strip_solve.proofs.Back.{kept_without_pairs, none_there, turned_once, written_over}
use Rattle.strip_solve.proofs.plan.oriented.Goals as goal

pub returns-then-is_empty-clause-kept : goal.returns-then-is_empty-clause-kept
returns-then-is_empty-clause-kept c =
    let count = length c.args.film.now.casts in
    let found = c.args.order.items in
    let is : IsOrder (length c.args.film.now.casts) c.args.order.items = c.requires.is_order in
    let reversed : IsOrder (length c.args.film.now.casts) c.orient.new.order = c.orient.ensures.order count (subst (IsOrder count) (sym c.deref_mut.ensures.value) is) in
    let over = written_over c.args.order.len c.orient.new.order found (sym c.deref_mut.ensures.len ∙ ap length c.deref_mut.ensures.value)
    (length-order count c.orient.new.order reversed ∙ sym (length-order count found is)) in
    subst (IsKeptOrder c.args.film.now) (sym over)
    (kept_without_pairs c.args.film.now c.orient.new.order (none_there c.pairs.result.now c.args.film.now.pairs c.if-is_empty.ensures c.pairs.ensures) reversed)

pub returns-then-is_empty-clause-turned : goal.returns-then-is_empty-clause-turned
returns-then-is_empty-clause-turned c = λ none.
    let count = length c.args.film.now.casts in
    let found = c.args.order.items in
    let given : IsOrder count c.deref_mut.result.now = subst (IsOrder count) (sym c.deref_mut.ensures.value) c.requires.is_order in
    let reversed : IsOrder count c.orient.new.order = c.orient.ensures.order count given in
    let over = written_over c.args.order.len c.orient.new.order found (sym c.deref_mut.ensures.len ∙ ap length c.deref_mut.ensures.value)
    (length-order count c.orient.new.order reversed ∙ sym (length-order count found c.requires.is_order)) in
    subst (λ (order : List ℕ). order ≡ oriented order) (sym over)
    (turned_once c.deref_mut.result.now c.orient.new.order c.orient.ensures.oriented (c.orient.ensures.same count given))
