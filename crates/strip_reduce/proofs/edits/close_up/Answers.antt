use Rattle.std.proofs.Common.{◌<◌, length, get_or, set, ap, ◌∙◌, arith}
use Rattle.std.proofs.lemmas.List.{get_or_default}
use Rattle.std.proofs.lemmas.List.Edits.{map_over_more}
use Rattle.strip_mask.specs.Set.{closed_up}
use Rattle.strip_reduce.proofs.edits.close_up.Goals as goal

pub loop-cast-preserved : goal.loop-cast-preserved
loop-cast-preserved c =
    let casts = c.loop-cast.casts in
    let i = c.loop-cast.cast-index in
    let within : i < length c.args.casts.now = omega arith in
    let there : i < length casts = omega arith in
    ap (set casts i) c.closed_up.ensures
    ∙ map_over_more (λ cast. closed_up cast c.args.actor) c.args.casts.now casts i (get_or casts i 0) within c.loop-cast.invariant (get_or_default casts i 0 (get_or casts i 0) there)
