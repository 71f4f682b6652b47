use Rattle.std.proofs.Common.{◌<◌, length, get_or, set, ap, ◌∙◌, arith}
use Rattle.std.proofs.lemmas.List.{get_or_default}
use Rattle.std.proofs.lemmas.List.Edits.{map_over_more}
use Rattle.strip_model.specs.declared.pair.Pair.{Pair}
use Rattle.strip_reduce.specs.Steps.{renumbered_pair}
use Rattle.strip_reduce.proofs.edits.renumber.Goals as goal

pub loop-pair-preserved : goal.loop-pair-preserved
loop-pair-preserved c =
    let none : Pair = record { first = 0; then = 0 } in
    let pairs = c.loop-pair.pairs in
    let i = c.loop-pair.pair-index in
    let within : i < length c.args.pairs.now = omega arith in
    let there : i < length pairs = omega arith in
    ap (set pairs i) c.renumbered_pair.ensures
    ∙ map_over_more (renumbered_pair c.args.gone) c.args.pairs.now pairs i (get_or pairs i none) within c.loop-pair.invariant (get_or_default pairs i none (get_or pairs i none) there)
