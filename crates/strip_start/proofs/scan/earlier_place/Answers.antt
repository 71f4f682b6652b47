use Rattle.std.proofs.Common.{◌≡◌, ℕ, ◌+◌, ◌-◌, ◌<◌, ◌≤◌, List, length, take, slice_index, subst, sym, ap, ◌∙◌, arith}
use Rattle.strip_model.specs.Film.{FilmData}
use Rattle.strip_model.specs.Pairs.{Precedes}
use Rattle.strip_film.specs.Film.{all_scenes}
use Rattle.strip_film.specs.Finish.{steps_cost}
use Rattle.strip_film.specs.Shown.{path_data}
use Rattle.strip_start.specs.Sides.{cast_along}
use Rattle.strip_start.proofs.Tried.{IsAt, IsBestFrom, at_own, at_small, best_at_first, best_here, best_none, best_past, best_some, best_stuck, better_at, no_better_at}
use Rattle.strip_start.proofs.Past.{back_at, back_behind, back_enough, back_stuck, not_so, path_once, scene_known}
use Rattle.strip_start.proofs.Places.{from_own}
use Rattle.strip_start.proofs.scan.earlier_place.Goals as goal

pub precedes-requires-clause-first : goal.precedes-requires-clause-first
precedes-requires-clause-first c =
    let here : c.loop-to.to - 1 < length (path_data c.args.path.now).scenes = omega (arith, c.loop-to-test.true, c.loop-to.auto.to, c.requires.place) in
    rw c.scenes-scenes.ensures (omega (
      arith,
      c.keeps_limits.ensures.scene_count.1,
      scene_known c.args.film.now (path_data c.args.path.now) c.args.from c.requires.complete c.requires.place,
      scene_known c.args.film.now (path_data c.args.path.now) (c.loop-to.to - 1) c.requires.complete here,
    ))

pub precedes-requires-clause-then : goal.precedes-requires-clause-then
precedes-requires-clause-then c =
    let here : c.loop-to.to - 1 < length (path_data c.args.path.now).scenes = omega (arith, c.loop-to-test.true, c.loop-to.auto.to, c.requires.place) in
    rw c.scenes-scenes.ensures (omega (
      arith,
      c.keeps_limits.ensures.scene_count.1,
      scene_known c.args.film.now (path_data c.args.path.now) c.args.from c.requires.complete c.requires.place,
      scene_known c.args.film.now (path_data c.args.path.now) (c.loop-to.to - 1) c.requires.complete here,
    ))

pub turned-cost-requires-clause-first : goal.turned-cost-requires-clause-first
turned-cost-requires-clause-first c =
    let here : c.loop-to.to - 1 < length (path_data c.args.path.now).scenes = omega (arith, c.loop-to-test.true, c.loop-to.auto.to, c.requires.place) in
    rw c.scenes-scenes.ensures (omega (
      arith,
      c.keeps_limits.ensures.scene_count.1,
      scene_known c.args.film.now (path_data c.args.path.now) c.args.from c.requires.complete c.requires.place,
      scene_known c.args.film.now (path_data c.args.path.now) (c.loop-to.to - 1) c.requires.complete here,
    ))

pub turned-cost-requires-clause-second : goal.turned-cost-requires-clause-second
turned-cost-requires-clause-second c =
    let here : c.loop-to.to - 1 < length (path_data c.args.path.now).scenes = omega (arith, c.loop-to-test.true, c.loop-to.auto.to, c.requires.place) in
    rw c.scenes-scenes.ensures (omega (
      arith,
      c.keeps_limits.ensures.scene_count.1,
      scene_known c.args.film.now (path_data c.args.path.now) c.args.from c.requires.complete c.requires.place,
      scene_known c.args.film.now (path_data c.args.path.now) (c.loop-to.to - 1) c.requires.complete here,
    ))

pub bounds-casts-other : goal.bounds-casts-other
bounds-casts-other c =
    let here : c.loop-to.to - 1 < length (path_data c.args.path.now).scenes = omega (arith, c.loop-to-test.true, c.loop-to.auto.to, c.requires.place) in
    rw (c.casts.ensures, c.scenes-scenes.ensures) (omega (
      arith,
      c.keeps_limits.ensures.scene_count.1,
      scene_known c.args.film.now (path_data c.args.path.now) c.args.from c.requires.complete c.requires.place,
      scene_known c.args.film.now (path_data c.args.path.now) (c.loop-to.to - 1) c.requires.complete here,
    ))

pub returns-then-precedes-clause-some : goal.returns-then-precedes-clause-some
returns-then-precedes-clause-some c =
    let film : FilmData = c.args.film.now in
    let order : List ℕ = (path_data c.args.path.now).scenes in
    let from : ℕ = c.args.from in
    let place : ℕ = c.loop-to.to in
    let to : ℕ = c.loop-to.to - 1 in
    let next : to + 1 ≡ place = omega (arith, c.loop-to-test.true) in
    let pair : Precedes film.pairs (slice_index order to) (slice_index order from)
    = (rw c.scenes-scenes.ensures at c.precedes.ensures).0 c.if-precedes.true in
    best_some film order from c.loop-to.best
    (best_stuck film order from place c.loop-to.best (back_stuck film c.keeps_limits.ensures order from c.requires.place to place c.loop-to.cost next c.loop-to.auto.to pair)
    c.loop-to.invariant.best)

pub returns-then-precedes-clause-none : goal.returns-then-precedes-clause-none
returns-then-precedes-clause-none c =
    let film : FilmData = c.args.film.now in
    let order : List ℕ = (path_data c.args.path.now).scenes in
    let from : ℕ = c.args.from in
    let place : ℕ = c.loop-to.to in
    let to : ℕ = c.loop-to.to - 1 in
    let next : to + 1 ≡ place = omega (arith, c.loop-to-test.true) in
    let pair : Precedes film.pairs (slice_index order to) (slice_index order from)
    = (rw c.scenes-scenes.ensures at c.precedes.ensures).0 c.if-precedes.true in
    best_none film order from c.loop-to.best
    (best_stuck film order from place c.loop-to.best (back_stuck film c.keeps_limits.ensures order from c.requires.place to place c.loop-to.cost next c.loop-to.auto.to pair)
    c.loop-to.invariant.best)

pub turned-cost-requires-clause-cost : goal.turned-cost-requires-clause-cost
turned-cost-requires-clause-cost c =
    let film : FilmData = c.args.film.now in
    let order : List ℕ = (path_data c.args.path.now).scenes in
    let from : ℕ = c.args.from in
    at_small film c.keeps_limits.ensures order from c.requires.place c.loop-to.to c.loop-to.cost c.loop-to.invariant.at

pub turned-cost-requires-clause-enough : goal.turned-cost-requires-clause-enough
turned-cost-requires-clause-enough c =
    let film : FilmData = c.args.film.now in
    let order : List ℕ = (path_data c.args.path.now).scenes in
    let from : ℕ = c.args.from in
    let place : ℕ = c.loop-to.to in
    let to : ℕ = c.loop-to.to - 1 in
    let next : to + 1 ≡ place = omega (arith, c.loop-to-test.true) in
    let here : to < length order = omega (arith, c.loop-to-test.true, c.loop-to.auto.to, c.requires.place) in
    let free : ¬ Precedes film.pairs (slice_index order to) (slice_index order from)
    = not_so c.precedes.result (rw c.scenes-scenes.ensures at c.precedes.ensures) c.if-precedes.false in
    let before : ℕ = slice_index c.args.sides.now.before to in
    let before_is : before ≡ cast_along film (take to order) = c.requires.sides.before to here in
    rw c.scenes-scenes.ensures (back_enough film c.keeps_limits.ensures order from c.requires.place to place c.loop-to.cost next c.loop-to.auto.to
    before c.loop-to.behind.0 before_is c.loop-to.invariant.behind free c.loop-to.invariant.at)

pub loop-to-preserved-then-cost-paid : goal.loop-to-preserved-then-cost-paid
loop-to-preserved-then-cost-paid c =
    let film : FilmData = c.args.film.now in
    let order : List ℕ = (path_data c.args.path.now).scenes in
    let from : ℕ = c.args.from in
    let place : ℕ = c.loop-to.to in
    let to : ℕ = c.loop-to.to - 1 in
    let next : to + 1 ≡ place = omega (arith, c.loop-to-test.true) in
    let here : to < length order = omega (arith, c.loop-to-test.true, c.loop-to.auto.to, c.requires.place) in
    let free : ¬ Precedes film.pairs (slice_index order to) (slice_index order from)
    = not_so c.precedes.result (rw c.scenes-scenes.ensures at c.precedes.ensures) c.if-precedes.false in
    let before : ℕ = slice_index c.args.sides.now.before to in
    let before_is : before ≡ cast_along film (take to order) = c.requires.sides.before to here in
    let at : IsAt film order from to c.turned-cost.result
    = back_at film c.keeps_limits.ensures order from c.requires.place to place c.loop-to.cost next c.loop-to.auto.to
    before c.loop-to.behind.0 before_is c.loop-to.invariant.behind free
    c.turned-cost.result c.loop-to.invariant.at (rw c.scenes-scenes.ensures at c.turned-cost.ensures) in
    let compared : c.turned-cost.result < steps_cost film (all_scenes film) order = omega (arith, c.if-cost-paid.true, c.paid.ensures, c.requires.complete.0.steps) in
    record {
      at = at;
      behind = rw (c.union-behind.ensures, c.casts.ensures, c.scenes-scenes.ensures)
          (back_behind film c.keeps_limits.ensures order from c.requires.place to place c.loop-to.cost next c.loop-to.auto.to
          before c.loop-to.behind.0 before_is c.loop-to.invariant.behind free);
      best = best_here film order from to (better_at film c.keeps_limits.ensures order from c.requires.place to c.turned-cost.result here at compared);
    }

pub loop-to-preserved : goal.loop-to-preserved
loop-to-preserved c =
    let film : FilmData = c.args.film.now in
    let order : List ℕ = (path_data c.args.path.now).scenes in
    let from : ℕ = c.args.from in
    let place : ℕ = c.loop-to.to in
    let to : ℕ = c.loop-to.to - 1 in
    let next : to + 1 ≡ place = omega (arith, c.loop-to-test.true) in
    let here : to < length order = omega (arith, c.loop-to-test.true, c.loop-to.auto.to, c.requires.place) in
    let free : ¬ Precedes film.pairs (slice_index order to) (slice_index order from)
    = not_so c.precedes.result (rw c.scenes-scenes.ensures at c.precedes.ensures) c.if-precedes.false in
    let before : ℕ = slice_index c.args.sides.now.before to in
    let before_is : before ≡ cast_along film (take to order) = c.requires.sides.before to here in
    let at : IsAt film order from to c.turned-cost.result
    = back_at film c.keeps_limits.ensures order from c.requires.place to place c.loop-to.cost next c.loop-to.auto.to
    before c.loop-to.behind.0 before_is c.loop-to.invariant.behind free
    c.turned-cost.result c.loop-to.invariant.at (rw c.scenes-scenes.ensures at c.turned-cost.ensures) in
    let compared : steps_cost film (all_scenes film) order ≤ c.turned-cost.result = omega (arith, c.if-cost-paid.false, c.paid.ensures, c.requires.complete.0.steps) in
    record {
      at = at;
      behind = rw (c.union-behind.ensures, c.casts.ensures, c.scenes-scenes.ensures)
          (back_behind film c.keeps_limits.ensures order from c.requires.place to place c.loop-to.cost next c.loop-to.auto.to
          before c.loop-to.behind.0 before_is c.loop-to.invariant.behind free);
      best = best_past film order from to place c.loop-to.best next
          (no_better_at film c.keeps_limits.ensures order from c.requires.place to c.turned-cost.result at compared) c.loop-to.invariant.best;
    }

pub loop-to-init : goal.loop-to-init
loop-to-init c =
    let film : FilmData = c.args.film.now in
    let order : List ℕ = (path_data c.args.path.now).scenes in
    let from : ℕ = c.args.from in
    let costs : c.paid-cost.result ≡ steps_cost film (all_scenes film) order = c.paid-cost.ensures ∙ c.requires.complete.0.steps in
    record {
      at = subst (λ (cost : ℕ). IsAt film order from from cost) (sym costs)
          (at_own film c.keeps_limits.ensures order from c.requires.place (path_once film (path_data c.args.path.now) c.requires.complete));
      behind = c.requires.sides.behind from c.requires.place ∙ ap (cast_along film) (sym (from_own order from c.requires.place));
      best = best_at_first film order from;
    }

pub returns-clause-some : goal.returns-clause-some
returns-clause-some c =
    let film : FilmData = c.args.film.now in
    let order : List ℕ = (path_data c.args.path.now).scenes in
    let from : ℕ = c.args.from in
    let first : c.loop-to.to ≡ 0 = omega (arith, c.loop-to-test.false) in
    best_some film order from c.loop-to.best (subst (λ (i : ℕ). IsBestFrom film order from i c.loop-to.best) first c.loop-to.invariant.best)

pub returns-clause-none : goal.returns-clause-none
returns-clause-none c =
    let film : FilmData = c.args.film.now in
    let order : List ℕ = (path_data c.args.path.now).scenes in
    let from : ℕ = c.args.from in
    let first : c.loop-to.to ≡ 0 = omega (arith, c.loop-to-test.false) in
    best_none film order from c.loop-to.best (subst (λ (i : ℕ). IsBestFrom film order from i c.loop-to.best) first c.loop-to.invariant.best)
