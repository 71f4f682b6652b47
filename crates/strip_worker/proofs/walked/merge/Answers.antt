use Rattle.std.proofs.Common.{◌||◌, Bool, ap, arith}
use Rattle.strip_worker.proofs.Merged.{merged}
use Rattle.strip_worker.proofs.walked.merge.Goals as goal

pub returns-clause-worked : goal.returns-clause-worked
returns-clause-worked c = λ one other both front was was_other takes.
    merged one other both front c.args.into.now.found.items c.args.from.now.found.items c.loop-task.into.found.items c.args.into.now.spent c.args.from.now.spent
    (c.loop-task.into.spent || c.args.from.now.spent) was was_other takes c.loop-task.invariant.long
    (λ task below. c.loop-task.invariant.done task (omega (arith, below, c.loop-task-test.false, c.len-task-end.ensures, c.args.into.now.found.ok.0)))
    (ap (λ (spent : Bool). spent || c.args.from.now.spent) c.loop-task.invariant.spent)
