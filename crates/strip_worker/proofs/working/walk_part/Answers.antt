use Rattle.std.proofs.Common.{◌≡◌, ◌<◌, ◌-◌, ◌∙◌, ◌||◌, ℕ, suc, Ok, length, ap, subst, sym, refl, arith}
use Rattle.strip_film.specs.Path.{PathData}
use Rattle.strip_front.specs.Shown.{front_data}
use Rattle.strip_front.specs.Front.{is_wanted}
use Rattle.strip_walk.specs.Found.{MayExplore}
use Rattle.strip_worker.specs.Team.{WalksTask, beginning}
use Rattle.strip_worker.proofs.Taken.{by, may_walk, passed_part, stands_still, task_read, walked_task, wanted_read, within}
use Rattle.strip_worker.proofs.working.walk_part.Goals as goal

pub returns-then-part-eq0-clause-walks : goal.returns-then-part-eq0-clause-walks
returns-then-part-eq0-clause-walks g c = stands_still (g.H.Hand.shows c.args.hand.now) c.args.part c.requires.claimed.2.3

pub returns-then-part-eq0-clause-worked : goal.returns-then-part-eq0-clause-worked
returns-then-part-eq0-clause-worked g c =
    passed_part g.B.Bounds.kind g.B.Bounds.film (g.H.Hand.shows c.args.hand.now) (front_data c.args.front.now) c.args.walked.now.found.items c.args.walked.now.spent c.args.part
    c.keeps_limits.ensures c.requires.claimed (λ task is. absurd (omega (arith, is, c.if-part-eq0.true)))

pub index-requires : goal.index-requires
index-requires g c =
    let task : ℕ = c.args.part - 1 in
    let part : c.args.part ≡ suc task = omega (arith, c.if-part-eq0.false) in
    let front = front_data c.args.front.now in
    let hand = g.H.Hand.shows c.args.hand.now in
    let below = within g.B.Bounds.kind g.B.Bounds.film hand front c.args.walked.now.found.items c.args.walked.now.spent c.args.part task part
    c.keeps_limits.ensures c.requires.claimed in
    omega (arith, below, c.requires.claimed.1.worked.front_of.wanted, c.args.front.now.wanted.ok.0)

pub walk-requires-clause-search : goal.walk-requires-clause-search
walk-requires-clause-search g c =
    let task : ℕ = c.args.part - 1 in
    let part : c.args.part ≡ suc task = omega (arith, c.if-part-eq0.false) in
    by g.B.Bounds.kind g.B.Bounds.film (g.H.Hand.shows c.args.hand.now) (front_data c.args.front.now) c.args.walked.now.found.items
    c.args.walked.now.spent c.args.part task part c.keeps_limits.ensures c.requires.claimed

pub walk-requires-clause-may : goal.walk-requires-clause-may
walk-requires-clause-may g c =
    let task : ℕ = c.args.part - 1 in
    let part : c.args.part ≡ suc task = omega (arith, c.if-part-eq0.false) in
    let front = front_data c.args.front.now in
    let hand = g.H.Hand.shows c.args.hand.now in
    let below = within g.B.Bounds.kind g.B.Bounds.film hand front c.args.walked.now.found.items c.args.walked.now.spent c.args.part task part
    c.keeps_limits.ensures c.requires.claimed in
    subst (λ (path : PathData). MayExplore hand (beginning c.args.part) path)
    (sym (task_read front c.tasks.result.now task c.index-tasks-task.result c.tasks.ensures below c.index-tasks-task.is))
    (may_walk g.B.Bounds.kind g.B.Bounds.film hand front c.args.walked.now.found.items c.args.walked.now.spent c.args.part task part
    c.keeps_limits.ensures c.requires.claimed)

pub index_mut-requires : goal.index_mut-requires
index_mut-requires g c =
    let task : ℕ = c.args.part - 1 in
    let part : c.args.part ≡ suc task = omega (arith, c.if-part-eq0.false) in
    let front = front_data c.args.front.now in
    let hand = g.H.Hand.shows c.args.hand.now in
    let below = within g.B.Bounds.kind g.B.Bounds.film hand front c.args.walked.now.found.items c.args.walked.now.spent c.args.part task part
    c.keeps_limits.ensures c.requires.claimed in
    omega (arith, below, c.requires.claimed.1.worked.long, c.args.walked.now.found.ok.0)

pub returns-in_ok-found-clause-worked : goal.returns-in_ok-found-clause-worked
returns-in_ok-found-clause-worked g c =
    let task : ℕ = c.args.part - 1 in
    let part : c.args.part ≡ suc task = omega (arith, c.if-part-eq0.false) in
    let front = front_data c.args.front.now in
    let hand = g.H.Hand.shows c.args.hand.now in
    let below = within g.B.Bounds.kind g.B.Bounds.film hand front c.args.walked.now.found.items c.args.walked.now.spent c.args.part task part
    c.keeps_limits.ensures c.requires.claimed in
    let asked : task < length c.args.front.now.wanted.items = omega (arith, below, c.requires.claimed.1.worked.front_of.wanted) in
    let walks = subst (λ (path : PathData). WalksTask hand c.args.part path (Ok c.in_ok-found.found) (g.H.Hand.shows c.walk.new.hand))
    (task_read front c.tasks.result.now task c.index-tasks-task.result c.tasks.ensures below c.index-tasks-task.is)
    c.in_ok-found.ensures.walked in
    walked_task g.B.Bounds.kind g.B.Bounds.film hand front c.args.walked.now.found.items c.args.walked.now.spent c.args.part task part
    c.keeps_limits.ensures c.requires.claimed c.in_ok-found.found (g.H.Hand.shows c.walk.new.hand)
    (c.args.walked.now.spent || c.in_ok-found.found.spent)
    (wanted_read c.args.front.now task c.index.result.now asked c.index.ensures ∙ c.if-index.true) c.keeps_limits-then-index.ensures walks refl

pub returns-else-index-clause-walks : goal.returns-else-index-clause-walks
returns-else-index-clause-walks g c = stands_still (g.H.Hand.shows c.args.hand.now) c.args.part c.requires.claimed.2.3

pub returns-else-index-clause-worked : goal.returns-else-index-clause-worked
returns-else-index-clause-worked g c =
    let task : ℕ = c.args.part - 1 in
    let part : c.args.part ≡ suc task = omega (arith, c.if-part-eq0.false) in
    let front = front_data c.args.front.now in
    let hand = g.H.Hand.shows c.args.hand.now in
    let below = within g.B.Bounds.kind g.B.Bounds.film hand front c.args.walked.now.found.items c.args.walked.now.spent c.args.part task part
    c.keeps_limits.ensures c.requires.claimed in
    let asked : task < length c.args.front.now.wanted.items = omega (arith, below, c.requires.claimed.1.worked.front_of.wanted) in
    passed_part g.B.Bounds.kind g.B.Bounds.film hand front c.args.walked.now.found.items c.args.walked.now.spent c.args.part c.keeps_limits.ensures c.requires.claimed
    (λ other is. ap (is_wanted front) (omega (arith, is, part)) ∙ wanted_read c.args.front.now task c.index.result.now asked c.index.ensures ∙ c.if-index.false)
