use Rattle.std.proofs.Common.{◌≡◌, ℕ, ◌+◌, ◌*◌, ◌<◌, List, [], ◌∷◌, length, slice_index, sum_by, ap, ◌∙◌, arith, append_assoc}
use Rattle.std.proofs.lemmas.List.Sums.{sum_by-append, sum_by-cons}
use Rattle.strip_mask.specs.Iter.{rest_of}
use Rattle.strip_mask.proofs.Turns.{turn_member, turns_all}
use Rattle.strip_bound.specs.Bounds.{days_with_without}
use Rattle.strip_bound.proofs.Coming.{pay_fits, pay_small}
use Rattle.strip_bound.proofs.newcomers.pay_of_company.Goals as goal

pub days_apart-requires-clause-second : goal.days_apart-requires-clause-second
days_apart-requires-clause-second c = c.requires.actors c.in-Some.actor (turn_member c.args.actors.0 c.in-Some.actor c.loop-actor.yielded
    (rest_of c.loop-actor.actor-iterator) (rest_of c.next.new.self) c.loop-actor.invariant.turns c.in-Some.ensures.steps)

pub bounds-holds-actor : goal.bounds-holds-actor
bounds-holds-actor c =
    let known : c.in-Some.actor < length c.args.film.now.rates = c.requires.actors c.in-Some.actor (turn_member c.args.actors.0 c.in-Some.actor c.loop-actor.yielded
    (rest_of c.loop-actor.actor-iterator) (rest_of c.next.new.self) c.loop-actor.invariant.turns c.in-Some.ensures.steps) in
    rw c.holds-holds.ensures (omega (arith, known, c.keeps_limits.ensures.hold_count))

pub overflow_add-pay : goal.overflow_add-pay
overflow_add-pay c =
    let fits : c.loop-actor.pay + slice_index c.args.film.now.holds c.in-Some.actor * c.days_apart.result < 9223372036854775808
    = pay_fits c.args.film.now c.args.actors.0 c.in-Some.actor c.days_apart.result c.loop-actor.pay c.loop-actor.yielded (rest_of c.loop-actor.actor-iterator)
    (rest_of c.next.new.self) c.keeps_limits.ensures c.loop-actor.invariant.turns c.in-Some.ensures.steps c.days_apart.ensures.small c.loop-actor.invariant.small in
    rw c.holds-holds.ensures (omega (arith, fits))

pub loop-actor-preserved : goal.loop-actor-preserved
loop-actor-preserved c =
    let film = c.args.film.now in
    let each : ℕ → ℕ = λ actor. slice_index film.holds actor * days_with_without film c.args.q.0 c.args.newcomer actor in
    let actor : ℕ = c.in-Some.actor in
    let one : sum_by each (actor ∷ []) ≡ each actor = omega (arith, sum_by-cons each actor []) in
    let here : slice_index c.holds-holds.result.now actor * c.days_apart.result ≡ each actor
    = (λ i. slice_index (c.holds-holds.ensures i) actor * c.days_apart.ensures.days i) in
    record {
      pay = omega (arith, here, one, c.loop-actor.invariant.pay, sum_by-append each c.loop-actor.yielded (actor ∷ []));
      small =
          let same : slice_index c.holds-holds.result.now actor * c.days_apart.result ≡ slice_index film.holds actor * c.days_apart.result
          = ap (λ (holds : List ℕ). slice_index holds actor * c.days_apart.result) c.holds-holds.ensures in
          omega (arith, same, pay_small film actor c.days_apart.result c.loop-actor.pay c.loop-actor.yielded c.days_apart.ensures.small c.loop-actor.invariant.small);
      turns = rw append_assoc (rw (← c.in-Some.ensures.steps) c.loop-actor.invariant.turns);
    }

pub returns : goal.returns
returns c = c.loop-actor.invariant.pay
    ∙ ap (sum_by (λ actor. slice_index c.args.film.now.holds actor * days_with_without c.args.film.now c.args.q.0 c.args.newcomer actor))
    (turns_all c.args.actors.0 c.loop-actor.yielded (rest_of c.loop-actor.actor-iterator) c.loop-actor.invariant.turns c.in-None.ensures.steps.0)
