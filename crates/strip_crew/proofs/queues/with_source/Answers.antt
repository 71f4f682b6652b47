use Rattle.std.proofs.Common.{◌∙◌, ◌≤◌, ℕ, suc, List, length, ap, sym, subst, arith}
use Rattle.strip_front.specs.Front.{FrontData}
use Rattle.strip_front.specs.Shown.{front_data}
use Rattle.strip_least.specs.Rule.{times}
use Rattle.strip_crew.specs.Race.{ArePartsOf}
use Rattle.strip_crew.proofs.Once.{at_most_once}
use Rattle.strip_crew.proofs.Pooled.{has_queues}
use Rattle.strip_crew.proofs.queues.with_source.Goals as goal

-- the parts of tasks stand once each
once : (tasks : ℕ) (numbers : List ℕ) → ArePartsOf tasks numbers → (number : ℕ) → times number numbers ≤ 1
once tasks numbers parts number = omega (arith, parts number, at_most_once number (suc tasks))

pub pool-requires-clause-once : goal.pool-requires-clause-once
pool-requires-clause-once c = λ number.
    subst (λ (numbers : List ℕ). times number numbers ≤ 1) (sym c.deref-2.ensures.value) (once (length c.deref.result.now) c.in_ok-numbers.numbers.items c.in_ok-numbers.ensures number)

pub returns : goal.returns
returns c =
    let front : FrontData = front_data c.args.front.now in
    let parts : ArePartsOf (length front.tasks) c.deref-2.result.now
    = subst (λ (tasks : ℕ). ArePartsOf tasks c.deref-2.result.now) (ap length c.deref.ensures.value ∙ c.requires.wanted)
    (subst (ArePartsOf (length c.deref.result.now)) (sym c.deref-2.ensures.value) c.in_ok-numbers.ensures) in
    has_queues c.args.least.now c.args.book.now c.args.passes c.in_ok-pool.pool front c.deref-2.result.now c.args.workers
    c.requires.passes c.requires.only.counter c.requires.only.claimed c.requires.tasks parts
    c.in_ok-pool.ensures.pool c.in_ok-pool.ensures.dealt c.in_ok-pool.ensures.handed c.in_ok-pool.ensures.untaken
