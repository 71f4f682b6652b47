use Rattle.std.proofs.Common.{◌∷◌, ◌++◌, [], sym, subst, ap, ◌∙◌, take}
use Rattle.std.proofs.lemmas.List.{take_more}
use Rattle.strip_film.specs.declared.path.Path.{Path}
use Rattle.strip_start.specs.Runs.{IsCheapest}
use Rattle.strip_start.proofs.Cheapest.{cheapest_next}
use Rattle.strip_start.proofs.varying.cheapest.Goals as goal

pub loop-path-preserved : goal.loop-path-preserved
loop-path-preserved c =
    let one = c.cheaper-best.ensures in
    subst (λ known. IsCheapest known c.cheaper-best.result)
    (ap (λ more. c.args.start.now ∷ more) (sym (take_more c.args.paths.now c.loop-path.path-index c.path-item.result c.loop-path-test.true
    ∙ ap (λ (path : Path). take c.loop-path.path-index c.args.paths.now ++ path ∷ []) (sym c.path-item.is))))
    (cheapest_next (c.args.start.now ∷ take c.loop-path.path-index c.args.paths.now) c.path-item.result c.loop-path.best c.cheaper-best.result
    c.loop-path.invariant one.either one.no_dearer.0 one.no_dearer.1)
