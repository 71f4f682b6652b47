use Rattle.std.proofs.Common.{◌≡◌, ℕ, ◌+◌, ◌*◌, ◌≤◌, ◌++◌, ◌∷◌, [], sum_by, ap, ◌∙◌, arith, append_assoc}
use Rattle.std.proofs.lemmas.List.{length_push}
use Rattle.std.proofs.Math.Nat.{mul-le-mul}
use Rattle.strip_mask.specs.Iter.{rest_of}
use Rattle.strip_mask.specs.Set.{sum_over}
use Rattle.strip_mask.proofs.Turns.{turn_member, turns_all}
use Rattle.strip_group.proofs.Places.{turn_at}
use Rattle.std.proofs.lemmas.List.Sums.{sum_by-append, sum_by-cons}
use Rattle.strip_arrivals.proofs.Own.{days_are, own, own_is}
use Rattle.strip_arrivals.proofs.table.ArrivalsTable.own_pay.Goals as goal

pub hold-requires : goal.hold-requires
hold-requires c = c.requires.known c.in-Some.actor (turn_member c.args.group.0 c.in-Some.actor c.loop-actor.yielded (rest_of c.loop-actor.actor-iterator) (rest_of c.next.new.self) c.loop-actor.invariant.turns c.in-Some.ensures.steps)

pub plays-requires : goal.plays-requires
plays-requires c = c.requires.known c.in-Some.actor (turn_member c.args.group.0 c.in-Some.actor c.loop-actor.yielded (rest_of c.loop-actor.actor-iterator) (rest_of c.next.new.self) c.loop-actor.invariant.turns c.in-Some.ensures.steps)

pub overflow_add-pay : goal.overflow_add-pay
overflow_add-pay c =
    let turn = turn_at c.args.group.0 c.in-Some.actor c.loop-actor.yielded (rest_of c.loop-actor.actor-iterator) (rest_of c.next.new.self) c.loop-actor.invariant.turns c.in-Some.ensures.steps in
    let days : c.days.result ≤ 19800 = c.days.ensures.few in
    let more : c.hold.result * c.days.result ≤ 64000000000 * 19800 = mul-le-mul c.hold.ensures.low days in
    record { fits = omega (arith, more, c.loop-actor.invariant.small, turn.1, c.requires.few) }

pub loop-actor-preserved : goal.loop-actor-preserved
loop-actor-preserved c =
    let days : c.days.result ≤ 19800 = c.days.ensures.few in
    let more : c.hold.result * c.days.result ≤ 64000000000 * 19800 = mul-le-mul c.hold.ensures.low days in
    let one : c.hold.result * c.days.result ≡ own c.args.self.now c.args.set.0 c.args.group.0 c.in-Some.actor
    = (λ i. c.hold.ensures.same i * (c.days.ensures.same ∙ ap (sum_over c.args.self.now.days) c.meet.ensures ∙ days_are c.args.self.now c.args.set.0 c.args.group.0 c.in-Some.actor c.plays.result.0 c.plays.ensures) i) in
    let all : sum_by (own c.args.self.now c.args.set.0 c.args.group.0) (c.loop-actor.yielded ++ c.in-Some.actor ∷ [])
    ≡ sum_by (own c.args.self.now c.args.set.0 c.args.group.0) c.loop-actor.yielded + own c.args.self.now c.args.set.0 c.args.group.0 c.in-Some.actor
    = sum_by-append (own c.args.self.now c.args.set.0 c.args.group.0) c.loop-actor.yielded (c.in-Some.actor ∷ [])
    ∙ ap (λ (n : ℕ). sum_by (own c.args.self.now c.args.set.0 c.args.group.0) c.loop-actor.yielded + n)
    (sum_by-cons (own c.args.self.now c.args.set.0 c.args.group.0) c.in-Some.actor [] ∙ last (own c.args.self.now c.args.set.0 c.args.group.0 c.in-Some.actor)) in
    record {
      so_far = omega (arith, c.loop-actor.invariant.so_far, one, all);
      small = omega (arith, c.loop-actor.invariant.small, more, length_push c.loop-actor.yielded c.in-Some.actor);
      turns = rw append_assoc (rw (← c.in-Some.ensures.steps) c.loop-actor.invariant.turns);
    }
  where
    last : (n : ℕ) → n + 0 ≡ n
    last n = omega arith

pub returns : goal.returns
returns c = λ newcomers. c.loop-actor.invariant.so_far ∙ own_is c.args.self.now c.args.set.0 c.args.group.0 newcomers c.loop-actor.yielded
    (turns_all c.args.group.0 c.loop-actor.yielded (rest_of c.loop-actor.actor-iterator) c.loop-actor.invariant.turns c.in-None.ensures.steps.0)
