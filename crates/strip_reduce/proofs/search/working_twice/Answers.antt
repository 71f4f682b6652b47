use Rattle.std.proofs.Common.{nat_le, sym, ap, ◌∙◌}
use Rattle.strip_mask.proofs.ByMembers.{has-empty}
use Rattle.strip_reduce.proofs.Searching.{once_more, twice_more, works_none}
use Rattle.strip_reduce.proofs.search.working_twice.Goals as goal

pub loop-cast-init : goal.loop-cast-init
loop-cast-init c = record {
  once = λ actor. has-empty actor ∙ ap (nat_le 1) (sym (works_none c.args.casts.now actor));
  twice = λ actor. has-empty actor ∙ ap (nat_le 2) (sym (works_none c.args.casts.now actor));
}

pub loop-cast-preserved : goal.loop-cast-preserved
loop-cast-preserved c =
    let casts = c.args.casts.now in
    let i = c.loop-cast.cast-index in
    let before = c.loop-cast.invariant in
    record {
      once = λ actor. rw c.union-once.ensures (once_more casts c.loop-cast.once.0 i actor (before.once actor));
      twice = λ actor. rw (c.union-twice.ensures, c.meet.ensures) (twice_more casts c.loop-cast.once.0 c.loop-cast.twice.0 i actor (before.once actor) (before.twice actor));
    }
