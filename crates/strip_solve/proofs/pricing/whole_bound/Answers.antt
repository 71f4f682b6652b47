use Rattle.std.proofs.Common.{◌≡◌, ◌∙◌, ◌+◌, ℕ, length, ap, arith}
use Rattle.strip_mask.proofs.Below.{LiesBelow-full}
use Rattle.strip_model.specs.declared.kind.Kind.TheVariants.{Pairs}
use Rattle.strip_film.specs.Film.{all_scenes}
use Rattle.strip_film.proofs.Small.{finish_small}
use Rattle.strip_bound.specs.Bounds.{bound}
use Rattle.strip_solve.proofs.pricing.whole_bound.Goals as goal

pub pairs-requires-clause-lies : goal.pairs-requires-clause-lies
pairs-requires-clause-lies c = rw (c.all.ensures) (LiesBelow-full (length c.args.reduced.now.film.casts))

pub overflow_add-result : goal.overflow_add-result
overflow_add-result c =
    let film = c.args.reduced.now.film in
    let lies = LiesBelow-full (length film.casts) in
    let small = finish_small film (all_scenes film) (bound Pairs film (all_scenes film)) c.keeps_limits.ensures lies
    (c.the_rules_are_true.ensures.bounds Pairs film c.keeps_limits.ensures (all_scenes film) lies) in
    let same : c.pairs.result ≡ bound Pairs film (all_scenes film) = c.pairs.ensures ∙ ap (bound Pairs film) c.all.ensures in
    omega (arith, small, same, c.args.reduced.now.small)

pub returns : goal.returns
returns c =
    let film = c.args.reduced.now.film in
    ap (λ (n : ℕ). n + c.args.reduced.now.apart) (c.pairs.ensures ∙ ap (bound Pairs film) c.all.ensures)
