use Rattle.std.proofs.Common.{sym, ◌∙◌}
use Rattle.strip_reduce.proofs.Searching.{alike_in, alike_out}
use Rattle.strip_reduce.proofs.search.narrowed.Goals as goal

pub returns-then-has : goal.returns-then-has
returns-then-has c = λ other. rw c.meet.ensures (alike_in c.args.set.0 c.args.cast.0 c.args.actor other (sym c.has.ensures ∙ c.if-has.true))

pub returns-else-has : goal.returns-else-has
returns-else-has c = λ other. rw c.minus.ensures (alike_out c.args.set.0 c.args.cast.0 c.args.actor other (sym c.has.ensures ∙ c.if-has.false))
