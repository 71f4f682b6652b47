use Rattle.std.proofs.Common.{◌≡◌, inl, inr, sym, ap, ◌∙◌, arith}
use Rattle.strip_model.specs.declared.kind.Kind.{Kind}
use Rattle.strip_model.specs.declared.kind.Kind.TheVariants.{Arrivals}
use Rattle.strip_bound.specs.Bounds.{bound}
use Rattle.strip_bound.proofs.Small.{bound_small}
use Rattle.strip_bound.proofs.bounds.static_bound.Goals as goal

pub returns-in-Arrivals : goal.returns-in-Arrivals
returns-in-Arrivals c =
    let kind : bound Arrivals c.args.film.now c.args.q.0 ≡ bound c.args.kind c.args.film.now c.args.q.0
    = ap (λ (kind : Kind). bound kind c.args.film.now c.args.q.0) (sym c.in-Arrivals.is) in
    elim c.arrivals_reach.ensures.reaches [
      | inl reached ↦ absurd (omega (arith, reached, c.arrivals_reach.ensures.most, bound_small Arrivals c.args.film.now c.args.q.0 c.keeps_limits.ensures c.requires.lies))
      | inr whole ↦ whole ∙ kind
    ]
