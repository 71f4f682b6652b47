use Rattle.std.proofs.Common.{sym, subst}
use Rattle.strip_least.specs.Pass.{known}
use Rattle.strip_crew.specs.declared.source.Source.{Source}
use Rattle.strip_crew.specs.declared.source.Source.TheVariants.{Takes}
use Rattle.strip_crew.specs.Source.{Draws, IsSource}
use Rattle.strip_crew.proofs.Drawn.{draws}
use Rattle.strip_crew.proofs.source.next_part.Goals as goal

pub returns-in-Takes-clause-draws : goal.returns-in-Takes-clause-draws
returns-in-Takes-clause-draws g c =
    let told = known c.args.told.now in
    subst (λ (source : Source). Draws source told c.taken_part.result (Takes c.taken_part.new.taker) told) (sym c.in-Takes.is)
    (draws c.in-Takes.taker c.taken_part.new.taker told (subst (λ (source : Source). IsSource source told.parts told.claims) c.in-Takes.is c.requires.source)
    c.taken_part.ensures.taker c.taken_part.ensures.stays c.taken_part.result c.taken_part.ensures.answer)
