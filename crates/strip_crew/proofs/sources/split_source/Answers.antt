use Rattle.std.proofs.Common.{suc, sym, subst}
use Rattle.strip_crew.specs.declared.source.Source.{Source}
use Rattle.strip_crew.specs.declared.source.Source.TheVariants.{Gathers, Takes}
use Rattle.strip_crew.specs.Sources.{Bears, Splits}
use Rattle.strip_crew.proofs.Dealt.{pool_splits}
use Rattle.strip_crew.proofs.sources.split_source.Goals as goal

pub returns-in_ok-taker-in-Gathers : goal.returns-in_ok-taker-in-Gathers
returns-in_ok-taker-in-Gathers c =
    let made = c.in_ok-taker-in-Gathers.ensures in
    let gatherer = c.in-Gathers.gatherer in
    let taker = c.in_ok-taker-in-Gathers.field-0 in
    subst (λ (source : Source). Splits source (Takes taker) (Gathers (record { pool = c.taker.new.self; has_ended = gatherer.has_ended }))) (sym c.in-Gathers.is)
    (pool_splits gatherer.pool c.taker.new.self taker gatherer.has_ended made.taker made.same made.unused.1 made.weight made.stays made.taken
    (c.requires.weight.0, subst (Bears (suc (suc c.requires.weight.0))) c.in-Gathers.is c.requires.weight.1))
