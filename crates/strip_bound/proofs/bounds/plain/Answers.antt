use Rattle.std.proofs.Common.{◌∙◌, sym, subst, arith}
use Rattle.strip_model.specs.declared.kind.Kind.TheVariants.{Plain}
use Rattle.strip_bound.specs.Tables.{AreWeights}
use Rattle.strip_bound.proofs.Small.{bound_small}
use Rattle.strip_bound.proofs.Weights.{sum_weights}
use Rattle.strip_bound.proofs.bounds.plain.Goals as goal

pub sum_over-requires-clause-fits : goal.sum_over-requires-clause-fits
sum_over-requires-clause-fits c = omega (
  arith,
  sum_weights c.args.film.now c.deref.result.now c.args.q.0 (subst (AreWeights c.args.film.now) (sym c.deref.ensures.value) c.requires.tables.weights),
  bound_small Plain c.args.film.now c.args.q.0 c.keeps_limits.ensures c.requires.lies,
)

pub returns : goal.returns
returns c = c.sum_over.ensures ∙ sum_weights c.args.film.now c.deref.result.now c.args.q.0 (subst (AreWeights c.args.film.now) (sym c.deref.ensures.value) c.requires.tables.weights)
