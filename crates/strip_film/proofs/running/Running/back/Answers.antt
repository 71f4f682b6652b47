use Rattle.std.proofs.Common.{◌≡◌, ℕ, ◌+◌, ◌-◌, eqb, ◌&&◌, List, length, slice_index, ap, ◌∙◌, subst, arith}
use Rattle.strip_mask.specs.Set.{has}
use Rattle.strip_film.specs.Shown.{path_data, running_data}
use Rattle.strip_film.proofs.Casts.{cast_lies}
use Rattle.strip_mask.proofs.Sizes.{mark}
use Rattle.strip_film.proofs.Moves.{scenes_known, last_known, some_done, few_left, IsRunning-back}
use Rattle.strip_film.proofs.running.Running.back.Goals as goal

pub pop-s-requires-clause-known : goal.pop-s-requires-clause-known
pop-s-requires-clause-known c = λ place default within.
    omega (arith, scenes_known c.args.film.now (path_data c.args.self.now.path) c.requires.running.path place default within, c.keeps_limits.ensures.scene_count.1)

pub bounds-casts-s : goal.bounds-casts-s
bounds-casts-s c = rw c.casts.ensures (last_known c.args.film.now c.keeps_limits.ensures (running_data c.args.self.now) c.requires.running
    (path_data c.pop-s.new.self) c.pop-s.result c.pop-s.ensures.scenes c.pop-s.ensures.rest
    (c.pop-s.ensures.paid ∙ ap (λ (xs : List ℕ). slice_index c.args.self.now.before (length xs - 1)) c.scenes.ensures))

pub move_counts-requires-clause-known : goal.move_counts-requires-clause-known
move_counts-requires-clause-known c = rw c.casts.ensures
    (λ actor member. omega (arith, cast_lies c.args.film.now c.pop-s.result c.keeps_limits.ensures actor member, c.keeps_limits.ensures.actor_count))

pub move_counts-requires-clause-some : goal.move_counts-requires-clause-some
move_counts-requires-clause-some c = rw c.casts.ensures (some_done c.args.film.now c.keeps_limits.ensures (running_data c.args.self.now) c.requires.running
    (path_data c.pop-s.new.self) c.pop-s.result c.pop-s.ensures.scenes c.pop-s.ensures.rest
    (c.pop-s.ensures.paid ∙ ap (λ (xs : List ℕ). slice_index c.args.self.now.before (length xs - 1)) c.scenes.ensures))

pub move_counts-requires-clause-room : goal.move_counts-requires-clause-room
move_counts-requires-clause-room c = rw c.casts.ensures (few_left c.args.film.now c.keeps_limits.ensures (running_data c.args.self.now) c.requires.running
    (path_data c.pop-s.new.self) c.pop-s.result c.pop-s.ensures.scenes c.pop-s.ensures.rest
    (c.pop-s.ensures.paid ∙ ap (λ (xs : List ℕ). slice_index c.args.self.now.before (length xs - 1)) c.scenes.ensures))

pub without_scenes-requires : goal.without_scenes-requires
without_scenes-requires c = rw c.casts.ensures
    (λ actor member. omega (arith, cast_lies c.args.film.now c.pop-s.result c.keeps_limits.ensures actor member, c.keeps_limits.ensures.actor_count))

pub returns-clause-running : goal.returns-clause-running
returns-clause-running c =
    let down = subst (λ (casts : List ℕ). (actor : ℕ)
    → slice_index c.move_counts.new.from actor + mark (has (slice_index casts c.pop-s.result) actor) ≡ slice_index c.args.self.now.done actor)
    c.casts.ensures c.move_counts.ensures.from in
    let up = subst (λ (casts : List ℕ). (actor : ℕ)
    → slice_index c.move_counts.new.to actor ≡ slice_index c.args.self.now.left actor + mark (has (slice_index casts c.pop-s.result) actor))
    c.casts.ensures c.move_counts.ensures.to in
    let found = subst (λ (casts : List ℕ). (actor : ℕ)
    → has c.without_scenes.result.0 actor ≡ (has (slice_index casts c.pop-s.result) actor && eqb (slice_index c.move_counts.new.from actor) 0))
    c.casts.ensures c.without_scenes.ensures in
    rw (c.minus-self.ensures, c.union.ensures, c.casts.ensures)
    (IsRunning-back c.args.film.now c.keeps_limits.ensures (running_data c.args.self.now) c.requires.running
    (path_data c.pop-s.new.self) c.pop-s.result c.pop-s.ensures.scenes c.pop-s.ensures.rest
    (c.pop-s.ensures.paid ∙ ap (λ (xs : List ℕ). slice_index c.args.self.now.before (length xs - 1)) c.scenes.ensures)
    c.move_counts.new.from c.move_counts.new.to c.without_scenes.result.0 down up found)
