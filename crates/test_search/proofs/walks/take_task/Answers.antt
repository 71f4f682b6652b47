use Rattle.std.proofs.Common.{◌≡◌, ◌∙◌, ◌-◌, ℕ, suc, Some, None, subst, sym, arith}
use Rattle.strip_film.specs.Film.{IsFilm}
use Rattle.strip_film.specs.Path.{IsPath, PathData}
use Rattle.strip_film.specs.Shown.{CursorData, cursor_data, path_data, running_data}
use Rattle.strip_front.specs.Shown.{front_data}
use Rattle.strip_front.specs.Front.{task_at}
use Rattle.strip_hand.specs.Calls.{Claims}
use Rattle.strip_walk.specs.Found.{MayExplore}
use Rattle.strip_worker.proofs.Taken.{task_read}
use Rattle.test_search.proofs.Way.{may_walk, task_open, way_claimed, way_walked, within}
use Rattle.test_search.proofs.walks.take_task.Goals as goal

pub of-running-requires : goal.of-running-requires
of-running-requires g c =
    let task : ℕ = c.in_ok-part.part - 1 in
    let part : c.in_ok-part.part ≡ suc task = omega (arith, c.if-part-eq0.false) in
    let film = g.B.Bounds.film in
    let front = front_data c.args.front.now in
    let claims = subst (λ (p : ℕ). Claims (g.H.Hand.shows c.args.hand.now) (Some p) (g.H.Hand.shows c.claimed.new.hand)) part c.in_ok-part.ensures.claimed in
    let below = within g.B.Bounds.kind film (g.H.Hand.shows c.args.hand.now) (g.H.Hand.shows c.claimed.new.hand) front c.args.found.now.items task
    c.requires.way claims in
    let is : IsFilm film = subst IsFilm c.film.ensures c.keeps_limits.ensures in
    subst (λ f. IsPath f (path_data c.index-tasks-task.result)) (sym c.film-then-index.ensures)
    (subst (IsPath film)
    (sym (task_read front c.tasks.result.now task c.index-tasks-task.result c.tasks.ensures below c.index-tasks-task.is))
    (task_open g.B.Bounds.kind film (g.H.Hand.shows c.args.hand.now) (g.H.Hand.shows c.claimed.new.hand) front c.args.found.now.items task
    c.requires.way claims is).0)

pub explore-requires-clause-may : goal.explore-requires-clause-may
explore-requires-clause-may g c =
    let task : ℕ = c.in_ok-part.part - 1 in
    let part : c.in_ok-part.part ≡ suc task = omega (arith, c.if-part-eq0.false) in
    let film = g.B.Bounds.film in
    let front = front_data c.args.front.now in
    let claims = subst (λ (p : ℕ). Claims (g.H.Hand.shows c.args.hand.now) (Some p) (g.H.Hand.shows c.claimed.new.hand)) part c.in_ok-part.ensures.claimed in
    let below = within g.B.Bounds.kind film (g.H.Hand.shows c.args.hand.now) (g.H.Hand.shows c.claimed.new.hand) front c.args.found.now.items task
    c.requires.way claims in
    let is : IsFilm film = subst IsFilm c.film.ensures c.keeps_limits.ensures in
    let read = task_read front c.tasks.result.now task c.index-tasks-task.result c.tasks.ensures below c.index-tasks-task.is in
    subst (λ (cursor : CursorData). MayExplore (g.H.Hand.shows c.claimed.new.hand) cursor (path_data c.of-running.result.path)) (sym c.of-cursor.ensures)
    (subst (λ (path : PathData). MayExplore (g.H.Hand.shows c.claimed.new.hand) (record { task = c.in_ok-part.part; last = None }) path)
    (sym (c.of-running.ensures.path ∙ read))
    (subst (λ (p : ℕ). MayExplore (g.H.Hand.shows c.claimed.new.hand) (record { task = p; last = None }) (task_at front task)) (sym part)
    (may_walk g.B.Bounds.kind film (g.H.Hand.shows c.args.hand.now) (g.H.Hand.shows c.claimed.new.hand) front c.args.found.now.items task
    c.requires.way claims is)))

pub returns-in_ok-found-clause-way : goal.returns-in_ok-found-clause-way
returns-in_ok-found-clause-way g c =
    let task : ℕ = c.in_ok-part.part - 1 in
    let part : c.in_ok-part.part ≡ suc task = omega (arith, c.if-part-eq0.false) in
    let film = g.B.Bounds.film in
    let front = front_data c.args.front.now in
    let claims = subst (λ (p : ℕ). Claims (g.H.Hand.shows c.args.hand.now) (Some p) (g.H.Hand.shows c.claimed.new.hand)) part c.in_ok-part.ensures.claimed in
    let below = within g.B.Bounds.kind film (g.H.Hand.shows c.args.hand.now) (g.H.Hand.shows c.claimed.new.hand) front c.args.found.now.items task
    c.requires.way claims in
    let read = task_read front c.tasks.result.now task c.index-tasks-task.result c.tasks.ensures below c.index-tasks-task.is in
    way_walked g.B.Bounds.kind film (g.H.Hand.shows c.claimed.new.hand) (g.H.Hand.shows c.explore.new.hand) front c.args.found.now.items task
    (cursor_data c.of-cursor.result) (cursor_data c.explore.new.cursor) (running_data c.of-running.result).path c.in_ok-found.field-0
    (way_claimed g.B.Bounds.kind film (g.H.Hand.shows c.args.hand.now) (g.H.Hand.shows c.claimed.new.hand) front c.args.found.now.items task
    c.requires.way claims) below (c.of-running.ensures.path ∙ read) c.in_ok-found.ensures.explored.0 c.in_ok-found.ensures.explored.1

pub returns-else-index-clause-way : goal.returns-else-index-clause-way
returns-else-index-clause-way g c =
    let task : ℕ = c.in_ok-part.part - 1 in
    let part : c.in_ok-part.part ≡ suc task = omega (arith, c.if-part-eq0.false) in
    way_claimed g.B.Bounds.kind g.B.Bounds.film (g.H.Hand.shows c.args.hand.now) (g.H.Hand.shows c.claimed.new.hand)
    (front_data c.args.front.now) c.args.found.now.items task c.requires.way
    (subst (λ (p : ℕ). Claims (g.H.Hand.shows c.args.hand.now) (Some p) (g.H.Hand.shows c.claimed.new.hand)) part c.in_ok-part.ensures.claimed)
