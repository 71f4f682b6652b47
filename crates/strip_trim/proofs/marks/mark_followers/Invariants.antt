use Rattle.std.proofs.Common.{◌≡◌, ◌++◌}
use Rattle.strip_mask.specs.Iter.{rest_of}
use Rattle.strip_mask.specs.Set.{members}
use Rattle.strip_lines.specs.Lines.{rules_of}
use Rattle.strip_memo.specs.Memo.{IsMemo}
use Rattle.strip_rule.specs.Rule.{open_firsts}
use Rattle.strip_trim.specs.Marks.{MarksMore}
use Rattle.strip_trim.proofs.Followers.{FollowsBy}
use Rattle.strip_trim.proofs.marks.mark_followers.Given as goal

-- what follows by the scenes so far is marked; these and those to come are the open firsts
abbrev pub invariant-loop-s : goal.invariant-loop-s
invariant-loop-s g l = record {
  turns : l.yielded ++ rest_of l.s-iterator ≡ members (open_firsts g.B.Bounds.film l.entry.set);
  marked : MarksMore l.fn.marks l.marks (FollowsBy (rules_of g.B.Bounds.kind g.B.Bounds.film) l.best.lines l.entry.set l.yielded);
}
