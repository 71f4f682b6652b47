use Rattle.strip_crew.proofs.Dealt.{gathers_from}
use Rattle.strip_crew.proofs.sources.gather_from.Goals as goal

pub returns : goal.returns
returns c =
    gathers_from c.args.gatherer.now.pool c.gather.new.self c.args.gatherer.now.has_ended c.args.other c.in-Takes.taker c.in-Takes.is c.gather.ensures.gathered
