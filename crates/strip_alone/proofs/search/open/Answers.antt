use Rattle.std.proofs.Common.{◌≡◌, ◌∙◌, length, map, ap, subst, sym, arith}
use Rattle.std.proofs.lemmas.List.{length-replicate}
use Rattle.strip_film.specs.Film.{IsFilm}
use Rattle.strip_film.specs.Path.{IsComplete}
use Rattle.strip_film.specs.Shown.{path_data}
use Rattle.strip_model.specs.declared.kind.Kind.{Kind}
use Rattle.strip_model.specs.Film.{FilmData}
use Rattle.strip_front.specs.Front.{IsFrontOf}
use Rattle.strip_front.specs.Layers.{AreTasksOf}
use Rattle.strip_lines.specs.Lines.{rules_of}
use Rattle.strip_front.specs.Shown.{front_data}
use Rattle.strip_world.specs.Opened.{idle_worker, search_of}
use Rattle.strip_world.specs.World.{WorldData}
use Rattle.strip_alone.proofs.OneWorker.{front_claimed}
use Rattle.strip_alone.proofs.search.open.Given.{Over}
use Rattle.strip_alone.proofs.search.open.Goals as goal
use Rattle.strip_alone.proofs.search.open.Goals.{In_ok-world}

pub new-requires-clause-start : goal.new-requires-clause-start
new-requires-clause-start g c = subst (λ (f : FilmData). IsComplete f (path_data c.args.start.now)) (sym c.film-2.ensures) c.requires.start

pub new-requires-clause-limits : goal.new-requires-clause-limits
new-requires-clause-limits g c = c.requires.limits

pub new-requires-clause-tasks : goal.new-requires-clause-tasks
new-requires-clause-tasks g c =
    let front : IsFrontOf (rules_of c.kind.result c.film-2.result.now) (front_data c.args.front.now)
    = subst (λ (k : Kind). IsFrontOf (rules_of k c.film-2.result.now) (front_data c.args.front.now)) (sym c.kind.ensures)
    (subst (λ (f : FilmData). IsFrontOf (rules_of g.B.Bounds.kind f) (front_data c.args.front.now)) (sym c.film-2.ensures) c.requires.front) in
    (c.tasks_are_starts.ensures
    (search_of c.film-2.result.now c.kind.result (path_data c.args.start.now) (map path_data c.tasks.result.now) c.args.limits.now)
    (front_data c.args.front.now).depth
    (subst IsFilm (c.film.ensures ∙ sym c.film-2.ensures) c.keeps_limits.ensures) front.depth
    (subst (AreTasksOf (rules_of c.kind.result c.film-2.result.now) (front_data c.args.front.now).depth) (sym c.tasks.ensures) front.tasks)).0

pub returns-clause-front : goal.returns-clause-front
returns-clause-front g c =
    front_claimed c.film-2.result.now c.kind.result (path_data c.args.start.now) (map path_data c.tasks.result.now) c.args.limits.now c.in_ok-world.world
    c.claim.new.self c.claim.result c.in_ok-world.ensures.opened c.claim.ensures.step c.claim.ensures.claimed

-- the world has the one worker
workers : (g : Over) (c : goal.In_ok-world g) → length c.in_ok-world.world.workers ≡ 1
workers g c =
    ap (λ (w : WorldData). length w.workers) c.in_ok-world.ensures.opened
    ∙ length-replicate c.args.limits.now.workers (idle_worker (path_data c.args.start.now)) ∙ c.requires.one_worker

pub claim-requires : goal.claim-requires
claim-requires g c = record { sound = c.in_ok-world.ensures.sound; one = omega (arith, workers g (goal.at.claim-requires g c).In_ok-world) }

pub returns-clause-sound : goal.returns-clause-sound
returns-clause-sound g c = c.claim.ensures.sound

pub returns-clause-one_worker : goal.returns-clause-one_worker
returns-clause-one_worker g c = c.claim.ensures.home ∙ workers g (goal.at.returns-clause-one_worker g c).In_ok-world
