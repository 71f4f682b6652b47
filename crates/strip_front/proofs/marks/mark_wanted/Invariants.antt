use Rattle.strip_front.specs.Marked.{MarksMore}
use Rattle.strip_front.specs.Shown.{front_data}
use Rattle.strip_front.proofs.Asked.{FollowsBefore}
use Rattle.strip_front.proofs.marks.mark_wanted.Given as goal

-- the tasks that follow from the paths so far are asked for
abbrev pub invariant-loop-place : goal.invariant-loop-place
invariant-loop-place l = MarksMore (front_data l.fn.front) (front_data l.front) (FollowsBefore l.film (front_data l.fn.front) l.place)
