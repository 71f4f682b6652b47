use Rattle.std.proofs.Common.{◌≡◌, ◌↔◌, ◌≤◌, true, leb, refl, subst, sym, arith}
use Rattle.strip_bound.specs.Bounds.{bound}
use Rattle.strip_lines.specs.Lines.{known, rules_of}
use Rattle.strip_trim.specs.Best.{best_bound}
use Rattle.strip_trim.proofs.BestKnown.{known_best}
use Rattle.strip_check.proofs.Known.{by_line, by_static}
use Rattle.strip_check.proofs.justify.is_known.Goals as goal

pub returns-then-bound_of-need : goal.returns-then-bound_of-need
returns-then-bound_of-need g c = record {
  known = (
    λ _. omega (
      arith,
      known_best (rules_of g.B.Bounds.kind g.B.Bounds.film) c.args.best.now.lines c.args.q.0,
      c.bound_of.ensures,
      c.if-bound_of-need.true,
    ),
    λ _. refl,
  );
}

pub returns-then-reach-need : goal.returns-then-reach-need
returns-then-reach-need g c = record {
  known =
      let rules = rules_of g.B.Bounds.kind g.B.Bounds.film in
      let lines = c.args.best.now.lines in
      by_static c.args.need c.reach.result (bound g.B.Bounds.kind g.B.Bounds.film c.args.q.0) (best_bound lines c.args.q.0) (known rules lines c.args.q.0)
      (known_best rules lines c.args.q.0) c.reach.ensures.most c.if-reach-need.true;
}

pub returns-else-reach-need : goal.returns-else-reach-need
returns-else-reach-need g c = record {
  known =
      let rules = rules_of g.B.Bounds.kind g.B.Bounds.film in
      let lines = c.args.best.now.lines in
      subst (λ best. (leb c.args.need best ≡ true) ↔ (c.args.need ≤ known rules lines c.args.q.0)) (sym c.bound_of-else-reach-need.ensures)
      (by_line c.args.need c.reach.result (bound g.B.Bounds.kind g.B.Bounds.film c.args.q.0) (best_bound lines c.args.q.0) (known rules lines c.args.q.0)
      (known_best rules lines c.args.q.0) c.reach.ensures.reaches c.if-reach-need.false);
}
