use Rattle.std.proofs.Common.{sym, ◌∙◌, arith}
use Rattle.strip_mask.proofs.ByMembers.{below_64}
use Rattle.strip_mask.proofs.Sizes.{first_is, first_none, members-first}
use Rattle.strip_bound.proofs.bounds.least.Goals as goal

pub unreachable-requires : goal.unreachable-requires
unreachable-requires c = c.requires (first_none c.args.set.0 (omega arith) (sym c.first.ensures ∙ c.in-None.is))

pub returns-clause-begins : goal.returns-clause-begins
returns-clause-begins c = members-first c.args.set.0 c.in-Some.number (omega arith) (sym c.first.ensures ∙ c.in-Some.is)

pub returns-clause-member : goal.returns-clause-member
returns-clause-member c = (first_is c.args.set.0 c.in-Some.number (omega arith) (sym c.first.ensures ∙ c.in-Some.is)).0

pub returns-clause-below : goal.returns-clause-below
returns-clause-below c =
    below_64 c.args.set.0 c.in-Some.number (omega arith) (first_is c.args.set.0 c.in-Some.number (omega arith) (sym c.first.ensures ∙ c.in-Some.is)).0
