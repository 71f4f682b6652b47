use Rattle.std.proofs.Common.{◌≡◌, ℕ, ◌+◌, ◌<◌, eqb, ◌&&◌, List, length, slice_index, subst, arith}
use Rattle.strip_mask.specs.Set.{has}
use Rattle.strip_film.specs.Shown.{path_data, running_data}
use Rattle.strip_film.proofs.Casts.{cast_lies}
use Rattle.strip_film.proofs.Lists.{ready_there}
use Rattle.strip_film.proofs.Paths.{rest_lies, few_scenes, paid_limit}
use Rattle.strip_mask.proofs.Sizes.{mark}
use Rattle.strip_film.proofs.Moves.{some_left, few_done, IsRunning-taken}
use Rattle.strip_film.proofs.running.Running.take_with.Goals as goal

pub push-requires-clause-room : goal.push-requires-clause-room
push-requires-clause-room c = few_scenes c.args.film.now (path_data c.args.self.now.path) c.requires.running.path c.keeps_limits.ensures c.args.s c.requires.ready

pub bounds-casts-s : goal.bounds-casts-s
bounds-casts-s c = rw c.casts.ensures (rest_lies c.args.film.now (path_data c.args.self.now.path) c.requires.running.path c.args.s
    (ready_there c.args.film.now c.args.self.now.path.rest.0 c.args.s c.requires.ready))

pub bounds-self-scenes : goal.bounds-self-scenes
bounds-self-scenes c = rw c.scenes.ensures (few_scenes c.args.film.now (path_data c.args.self.now.path) c.requires.running.path c.keeps_limits.ensures c.args.s c.requires.ready)

pub push-requires-clause-scene : goal.push-requires-clause-scene
push-requires-clause-scene c =
    omega (
      arith,
      rest_lies c.args.film.now (path_data c.args.self.now.path) c.requires.running.path c.args.s
          (ready_there c.args.film.now c.args.self.now.path.rest.0 c.args.s c.requires.ready),
      c.keeps_limits.ensures.scene_count.1,
    )

pub push-requires-clause-sum : goal.push-requires-clause-sum
push-requires-clause-sum c =
    rw c.requires.step (omega (arith, paid_limit c.args.film.now (path_data c.args.self.now.path) c.requires.running.path c.keeps_limits.ensures c.args.s c.requires.ready))

pub move_counts-requires-clause-known : goal.move_counts-requires-clause-known
move_counts-requires-clause-known c = rw c.casts.ensures
    (λ actor member. omega (arith, cast_lies c.args.film.now c.args.s c.keeps_limits.ensures actor member, c.keeps_limits.ensures.actor_count))

pub move_counts-requires-clause-some : goal.move_counts-requires-clause-some
move_counts-requires-clause-some c = rw c.casts.ensures
    (some_left c.args.film.now c.keeps_limits.ensures (running_data c.args.self.now) c.requires.running c.args.s c.requires.ready)

pub move_counts-requires-clause-room : goal.move_counts-requires-clause-room
move_counts-requires-clause-room c = rw c.casts.ensures
    (few_done c.args.film.now c.keeps_limits.ensures (running_data c.args.self.now) c.requires.running c.args.s c.requires.ready)

pub without_scenes-requires : goal.without_scenes-requires
without_scenes-requires c = rw c.casts.ensures
    (λ actor member. omega (arith, cast_lies c.args.film.now c.args.s c.keeps_limits.ensures actor member, c.keeps_limits.ensures.actor_count))

pub returns-clause-running : goal.returns-clause-running
returns-clause-running c =
    let few = few_scenes c.args.film.now (path_data c.args.self.now.path) c.requires.running.path c.keeps_limits.ensures c.args.s c.requires.ready in
    let room : length (path_data c.args.self.now.path).scenes < length c.args.self.now.before = search (arith, few) in
    let down = subst (λ (casts : List ℕ). (actor : ℕ)
    → slice_index c.move_counts.new.from actor + mark (has (slice_index casts c.args.s) actor) ≡ slice_index c.args.self.now.left actor)
    c.casts.ensures c.move_counts.ensures.from in
    let up = subst (λ (casts : List ℕ). (actor : ℕ)
    → slice_index c.move_counts.new.to actor ≡ slice_index c.args.self.now.done actor + mark (has (slice_index casts c.args.s) actor))
    c.casts.ensures c.move_counts.ensures.to in
    let found = subst (λ (casts : List ℕ). (actor : ℕ)
    → has c.without_scenes.result.0 actor ≡ (has (slice_index casts c.args.s) actor && eqb (slice_index c.move_counts.new.from actor) 0))
    c.casts.ensures c.without_scenes.ensures in
    rw (c.minus-self.ensures, c.union.ensures, c.casts.ensures, c.push.ensures, c.requires.step, c.scenes.ensures, c.paid.ensures)
    (IsRunning-taken c.args.film.now c.keeps_limits.ensures (running_data c.args.self.now) c.requires.running c.args.s c.requires.ready
    c.move_counts.new.to c.move_counts.new.from c.without_scenes.result.0 room down up found)
