use Rattle.std.proofs.Common.{rules, ◌∙◌, subst, sym, arith}
use Rattle.strip_film.specs.Shown.{path_data}
use Rattle.strip_lines.specs.Ended.{EndsFrom}
use Rattle.strip_worker.proofs.Closed.{tells}
use Rattle.strip_worker.proofs.ending.tell.Goals as goal

pub returns-clause-ended : goal.returns-clause-ended
returns-clause-ended g c = λ hand shut left.
    let kind = g.B.Bounds.kind in
    let film = g.B.Bounds.film in
    let lines = c.args.lines.items in
    let order = sym (c.in_ok-order.ensures.items_if_clones_equal (search rules) ∙ c.scenes.ensures) in
    let held = sym (c.len.ensures ∙ c.args.lines.ok.0) in
    subst (EndsFrom kind film hand.search.start hand.search.nodes)
    (λ i. record { order = order i; cost = sym c.paid.ensures i; bound = c.whole_bound-bound.result; held = held i; lines = lines; spent = c.args.spent })
    (tells kind film hand (path_data c.args.best.now) lines c.args.spent c.args.number c.whole_bound-bound.result shut left
    (c.the_rules_are_true.ensures.bounds hand.search.kind hand.search.film shut.limits.film)
    (c.the_rules_are_true.ensures.begin hand.search.kind hand.search.film shut.limits.film)
    c.whole_bound-bound.ensures.whole c.deref.result.now c.deref.ensures.value c.whole_bound-bound.ensures.spent)

pub returns-clause-cost : goal.returns-clause-cost
returns-clause-cost g c = λ hand left. omega (arith, c.paid.ensures, left.least)
