use Rattle.std.proofs.Common.{◌-◌, Bool, arith, subst}
use Rattle.strip_film.specs.Rules.{Rules}
use Rattle.strip_lines.specs.Lines.{rules_of}
use Rattle.strip_layers.specs.Search.{SearchData}
use Rattle.strip_layers.specs.Shown.{search_data}
use Rattle.strip_layers.specs.Walked.{HasWalked}
use Rattle.strip_layers.proofs.Ended.{nearer}
use Rattle.strip_layers.proofs.searching.rise.Goals as goal

pub loop-alloc-smaller-else-search : goal.loop-alloc-smaller-else-search
loop-alloc-smaller-else-search g c =
    let rules : Rules = rules_of g.A.Answers.kind g.A.Answers.film in
    let before : SearchData = search_data c.loop-alloc.search in
    let after : SearchData = search_data c.walk_whole.new.search in
    nearer rules before after c.next-walk.result.may_spend c.next-walk.result.limit (2 - c.loop-alloc.limits.halvings)
    (omega (arith, c.next-walk.ensures.more, c.proved-in-loop-alloc-2.ensures)) (omega (arith, c.next-walk.ensures.most, c.paid-in-loop-alloc.ensures))
    c.loop-alloc.invariant.search.whole.some
    (subst (λ (b : Bool). HasWalked rules before c.next-walk.result.may_spend c.next-walk.result.limit b after) c.if-branch.true c.in_ok-walk_whole.ensures.walked)
    c.if-search.false
