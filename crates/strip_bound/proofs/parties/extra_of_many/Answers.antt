use Rattle.std.proofs.Common.{◌∙◌, ◌-◌, ◌^◌, ◌≤◌, min, length, arith}
use Rattle.std.proofs.Math.Pow.{pow_mono}
use Rattle.strip_bound.proofs.Asked.{many_le, reached_or_all}
use Rattle.strip_bound.proofs.parties.extra_of_many.Goals as goal

pub returns-clause-most : goal.returns-clause-most
returns-clause-most c = many_le c.args.here.now.film.now c.args.here.now.q.0 c.ask.new.self c.ask.ensures.parties
    (c.ask.ensures.same.0 ∙ c.new-many.ensures.parties.many)

pub returns-clause-reaches : goal.returns-clause-reaches
returns-clause-reaches c = reached_or_all c.args.here.now.film.now c.args.here.now.q.0 c.ask.new.self 10 c.args.need c.ask.ensures.parties c.ask.ensures.asked
    c.ask.ensures.more (c.ask.ensures.same.0 ∙ c.new-many.ensures.parties.many) (c.ask.ensures.same.1 ∙ c.new-many.ensures.need)
