use Rattle.std.proofs.Common.{◌≡◌, ℕ, ◌+◌, ◌-◌, ◌<◌, ◌≤◌, List, length, take, drop, slice_index, subst, sym, ap, ◌∙◌, arith}
use Rattle.strip_model.specs.Film.{FilmData}
use Rattle.strip_model.specs.Pairs.{Precedes}
use Rattle.strip_film.specs.Film.{all_scenes}
use Rattle.strip_film.specs.Finish.{steps_cost}
use Rattle.strip_film.specs.Shown.{path_data}
use Rattle.strip_start.specs.Moves.{taken_out}
use Rattle.strip_start.specs.Sides.{cast_along}
use Rattle.strip_start.proofs.Tried.{IsAt, at_own, at_small, better_at, no_better_at, none_at_end, none_further}
use Rattle.strip_start.proofs.Past.{not_so, path_once, scene_known}
use Rattle.strip_start.proofs.Places.{before_same}
use Rattle.strip_start.proofs.Onward.{on_at, on_before, on_enough, on_stuck}
use Rattle.strip_start.proofs.scan.later_place.Goals as goal

pub precedes-requires-clause-first : goal.precedes-requires-clause-first
precedes-requires-clause-first c =
    let here : c.loop-to.to < length (path_data c.args.path.now).scenes = omega (arith, c.loop-to-test.true, ap length c.scenes-scenes.ensures) in
    rw c.scenes-scenes.ensures (omega (
      arith,
      c.keeps_limits.ensures.scene_count.1,
      scene_known c.args.film.now (path_data c.args.path.now) c.args.from c.requires.complete c.requires.place,
      scene_known c.args.film.now (path_data c.args.path.now) c.loop-to.to c.requires.complete here,
    ))

pub precedes-requires-clause-then : goal.precedes-requires-clause-then
precedes-requires-clause-then c =
    let here : c.loop-to.to < length (path_data c.args.path.now).scenes = omega (arith, c.loop-to-test.true, ap length c.scenes-scenes.ensures) in
    rw c.scenes-scenes.ensures (omega (
      arith,
      c.keeps_limits.ensures.scene_count.1,
      scene_known c.args.film.now (path_data c.args.path.now) c.args.from c.requires.complete c.requires.place,
      scene_known c.args.film.now (path_data c.args.path.now) c.loop-to.to c.requires.complete here,
    ))

pub turned-cost-requires-clause-first : goal.turned-cost-requires-clause-first
turned-cost-requires-clause-first c =
    let here : c.loop-to.to < length (path_data c.args.path.now).scenes = omega (arith, c.loop-to-test.true, ap length c.scenes-scenes.ensures) in
    rw c.scenes-scenes.ensures (omega (
      arith,
      c.keeps_limits.ensures.scene_count.1,
      scene_known c.args.film.now (path_data c.args.path.now) c.args.from c.requires.complete c.requires.place,
      scene_known c.args.film.now (path_data c.args.path.now) c.loop-to.to c.requires.complete here,
    ))

pub turned-cost-requires-clause-second : goal.turned-cost-requires-clause-second
turned-cost-requires-clause-second c =
    let here : c.loop-to.to < length (path_data c.args.path.now).scenes = omega (arith, c.loop-to-test.true, ap length c.scenes-scenes.ensures) in
    rw c.scenes-scenes.ensures (omega (
      arith,
      c.keeps_limits.ensures.scene_count.1,
      scene_known c.args.film.now (path_data c.args.path.now) c.args.from c.requires.complete c.requires.place,
      scene_known c.args.film.now (path_data c.args.path.now) c.loop-to.to c.requires.complete here,
    ))

pub bounds-casts-other : goal.bounds-casts-other
bounds-casts-other c =
    let here : c.loop-to.to < length (path_data c.args.path.now).scenes = omega (arith, c.loop-to-test.true, ap length c.scenes-scenes.ensures) in
    rw (c.casts.ensures, c.scenes-scenes.ensures) (omega (
      arith,
      c.keeps_limits.ensures.scene_count.1,
      scene_known c.args.film.now (path_data c.args.path.now) c.args.from c.requires.complete c.requires.place,
      scene_known c.args.film.now (path_data c.args.path.now) c.loop-to.to c.requires.complete here,
    ))

pub returns-then-precedes-clause-none : goal.returns-then-precedes-clause-none
returns-then-precedes-clause-none c = λ _.
    let film : FilmData = c.args.film.now in
    let order : List ℕ = (path_data c.args.path.now).scenes in
    let from : ℕ = c.args.from in
    let to : ℕ = c.loop-to.to in
    let place : ℕ = c.loop-to.to - 1 in
    let next : place + 1 ≡ to = omega (arith, c.loop-to.auto.to) in
    let inside : from ≤ place = omega (arith, c.loop-to.auto.to) in
    let here : to < length order = omega (arith, c.loop-to-test.true, ap length c.scenes-scenes.ensures) in
    let pair : Precedes film.pairs (slice_index order from) (slice_index order to)
    = (rw c.scenes-scenes.ensures at c.precedes.ensures).0 c.if-precedes.true in
    none_further film order from to (length order) c.loop-to.invariant.none
    (on_stuck film c.keeps_limits.ensures order from c.requires.place to place c.loop-to.cost next inside here pair)

pub turned-cost-requires-clause-cost : goal.turned-cost-requires-clause-cost
turned-cost-requires-clause-cost c =
    let film : FilmData = c.args.film.now in
    let order : List ℕ = (path_data c.args.path.now).scenes in
    let from : ℕ = c.args.from in
    let to : ℕ = c.loop-to.to in
    let place : ℕ = c.loop-to.to - 1 in
    let next : place + 1 ≡ to = omega (arith, c.loop-to.auto.to) in
    let inside : from ≤ place = omega (arith, c.loop-to.auto.to) in
    at_small film c.keeps_limits.ensures order from c.requires.place place c.loop-to.cost (c.loop-to.invariant.at place next)

pub turned-cost-requires-clause-enough : goal.turned-cost-requires-clause-enough
turned-cost-requires-clause-enough c =
    let film : FilmData = c.args.film.now in
    let order : List ℕ = (path_data c.args.path.now).scenes in
    let from : ℕ = c.args.from in
    let to : ℕ = c.loop-to.to in
    let place : ℕ = c.loop-to.to - 1 in
    let next : place + 1 ≡ to = omega (arith, c.loop-to.auto.to) in
    let inside : from ≤ place = omega (arith, c.loop-to.auto.to) in
    let here : to < length order = omega (arith, c.loop-to-test.true, ap length c.scenes-scenes.ensures) in
    let free : ¬ Precedes film.pairs (slice_index order from) (slice_index order to)
    = not_so c.precedes.result (rw c.scenes-scenes.ensures at c.precedes.ensures) c.if-precedes.false in
    let before_is : c.loop-to.before.0 ≡ cast_along film (take place (taken_out from order)) = c.loop-to.invariant.before place next in
    let behind : ℕ = slice_index c.args.sides.now.behind to in
    let behind_is : behind ≡ cast_along film (drop (to + 1) order) = c.requires.sides.behind to here in
    rw c.scenes-scenes.ensures
    (on_enough film c.keeps_limits.ensures order from c.requires.place to place c.loop-to.cost next inside here
    c.loop-to.before.0 behind before_is behind_is free (c.loop-to.invariant.at place next))

pub returns-then-cost-paid-clause-some : goal.returns-then-cost-paid-clause-some
returns-then-cost-paid-clause-some c =
    let film : FilmData = c.args.film.now in
    let order : List ℕ = (path_data c.args.path.now).scenes in
    let from : ℕ = c.args.from in
    let to : ℕ = c.loop-to.to in
    let place : ℕ = c.loop-to.to - 1 in
    let next : place + 1 ≡ to = omega (arith, c.loop-to.auto.to) in
    let inside : from ≤ place = omega (arith, c.loop-to.auto.to) in
    let here : to < length order = omega (arith, c.loop-to-test.true, ap length c.scenes-scenes.ensures) in
    let free : ¬ Precedes film.pairs (slice_index order from) (slice_index order to)
    = not_so c.precedes.result (rw c.scenes-scenes.ensures at c.precedes.ensures) c.if-precedes.false in
    let before_is : c.loop-to.before.0 ≡ cast_along film (take place (taken_out from order)) = c.loop-to.invariant.before place next in
    let behind : ℕ = slice_index c.args.sides.now.behind to in
    let behind_is : behind ≡ cast_along film (drop (to + 1) order) = c.requires.sides.behind to here in
    let at : IsAt film order from to c.turned-cost.result
    = on_at film c.keeps_limits.ensures order from c.requires.place to place c.loop-to.cost next inside here c.loop-to.before.0 behind before_is behind_is free
    c.turned-cost.result (c.loop-to.invariant.at place next) (rw c.scenes-scenes.ensures at c.turned-cost.ensures) in
    let less : c.turned-cost.result < steps_cost film (all_scenes film) order = omega (arith, c.if-cost-paid.true, c.paid.ensures, c.requires.complete.0.steps) in
    record {
      better = better_at film c.keeps_limits.ensures order from c.requires.place to c.turned-cost.result here at less;
      first = λ earlier before. c.loop-to.invariant.none earlier (omega arith) before;
    }

pub loop-to-preserved : goal.loop-to-preserved
loop-to-preserved c =
    let film : FilmData = c.args.film.now in
    let order : List ℕ = (path_data c.args.path.now).scenes in
    let from : ℕ = c.args.from in
    let to : ℕ = c.loop-to.to in
    let place : ℕ = c.loop-to.to - 1 in
    let next : place + 1 ≡ to = omega (arith, c.loop-to.auto.to) in
    let inside : from ≤ place = omega (arith, c.loop-to.auto.to) in
    let here : to < length order = omega (arith, c.loop-to-test.true, ap length c.scenes-scenes.ensures) in
    let free : ¬ Precedes film.pairs (slice_index order from) (slice_index order to)
    = not_so c.precedes.result (rw c.scenes-scenes.ensures at c.precedes.ensures) c.if-precedes.false in
    let before_is : c.loop-to.before.0 ≡ cast_along film (take place (taken_out from order)) = c.loop-to.invariant.before place next in
    let behind : ℕ = slice_index c.args.sides.now.behind to in
    let behind_is : behind ≡ cast_along film (drop (to + 1) order) = c.requires.sides.behind to here in
    let at : IsAt film order from to c.turned-cost.result
    = on_at film c.keeps_limits.ensures order from c.requires.place to place c.loop-to.cost next inside here c.loop-to.before.0 behind before_is behind_is free
    c.turned-cost.result (c.loop-to.invariant.at place next) (rw c.scenes-scenes.ensures at c.turned-cost.ensures) in
    let more : steps_cost film (all_scenes film) order ≤ c.turned-cost.result = omega (arith, c.if-cost-paid.false, c.paid.ensures, c.requires.complete.0.steps) in
    let before : c.union-before.result.0 ≡ cast_along film (take to (taken_out from order))
    = rw (c.union-before.ensures, c.casts.ensures, c.scenes-scenes.ensures)
    (on_before film c.keeps_limits.ensures order from c.requires.place to place c.loop-to.cost next inside here c.loop-to.before.0 behind before_is behind_is free) in
    record {
      at = λ other then. (let same : to ≡ other = omega (arith, then) in subst (λ (i : ℕ). IsAt film order from i c.turned-cost.result) same at);
      before = λ other then. (let same : to ≡ other = omega (arith, then) in
          subst (λ (i : ℕ). c.union-before.result.0 ≡ cast_along film (take i (taken_out from order))) same before);
      none = none_at_end film order from to c.loop-to.invariant.none (no_better_at film c.keeps_limits.ensures order from c.requires.place to c.turned-cost.result at more);
    }

pub loop-to-init : goal.loop-to-init
loop-to-init c =
    let film : FilmData = c.args.film.now in
    let order : List ℕ = (path_data c.args.path.now).scenes in
    let from : ℕ = c.args.from in
    let costs : c.paid-cost.result ≡ steps_cost film (all_scenes film) order = c.paid-cost.ensures ∙ c.requires.complete.0.steps in
    let at : IsAt film order from from c.paid-cost.result
    = subst (λ (cost : ℕ). IsAt film order from from cost) (sym costs)
    (at_own film c.keeps_limits.ensures order from c.requires.place (path_once film (path_data c.args.path.now) c.requires.complete)) in
    let before : slice_index c.args.sides.now.before from ≡ cast_along film (take from (taken_out from order))
    = c.requires.sides.before from c.requires.place ∙ ap (cast_along film) (sym (before_same order from c.requires.place from (omega arith))) in
    record {
      at = λ other then. (let same : from ≡ other = omega (arith, then) in subst (λ (i : ℕ). IsAt film order from i c.paid-cost.result) same at);
      before = λ other then. (let same : from ≡ other = omega (arith, then) in
          subst (λ (i : ℕ). slice_index c.args.sides.now.before from ≡ cast_along film (take i (taken_out from order))) same before);
      none = none_at_end film order from from c.requires.earlier (no_better_at film c.keeps_limits.ensures order from c.requires.place from c.paid-cost.result at (omega (arith, costs)));
    }

pub returns-then-cost-paid-clause-none : goal.returns-then-cost-paid-clause-none
returns-then-cost-paid-clause-none c = λ none. absurd (cc (none))

pub returns-clause-none : goal.returns-clause-none
returns-clause-none c = λ _ to least within. c.loop-to.invariant.none to least (omega (arith, within, c.loop-to-test.false, ap length c.scenes-scenes.ensures))
