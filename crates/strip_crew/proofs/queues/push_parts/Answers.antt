use Rattle.std.proofs.Common.{◌≡◌, ◌∙◌, ℕ, ◌+◌, false, Bool, List, ◌++◌, length, take, slice_index_or, sym, ap, append_assoc, arith}
use Rattle.std.proofs.lemmas.List.{length-take-le, take_more}
use mathlib.Core.Bool.{beq}
use Rattle.strip_crew.specs.Race.{part_if, parts_where}
use Rattle.strip_crew.proofs.Queued.{parts_snoc}
use Rattle.strip_crew.proofs.queues.push_parts.Goals as goal

pub loop-task-preserved : goal.loop-task-preserved
loop-task-preserved c =
    let wanted = c.args.wanted.now in
    let asked = c.args.asked in
    let task : ℕ = c.loop-task.task in
    let is : Bool = slice_index_or wanted task false in
    let old : List ℕ = c.args.numbers.now.items in
    let before : List ℕ = parts_where asked 1 (take task wanted) in
    let long : 1 + length (take task wanted) ≡ task + 1 = (let same = length-take-le task wanted (omega (arith, c.loop-task-test.true)) in omega (arith, same)) in
    let snoc : parts_where asked 1 (take (task + 1) wanted) ≡ before ++ part_if (beq is asked) (task + 1)
    = ap (parts_where asked 1) (take_more wanted task false (omega (arith, c.loop-task-test.true))) ∙ parts_snoc asked 1 (take task wanted) is
    ∙ ap (λ (n : ℕ). before ++ part_if (beq is asked) n) long in
    c.in_ok-push_part.ensures ∙ ap (λ (xs : List ℕ). xs ++ part_if (beq is asked) (task + 1)) c.loop-task.invariant
    ∙ append_assoc old before (part_if (beq is asked) (task + 1)) ∙ sym (ap (λ (xs : List ℕ). old ++ xs) snoc)
