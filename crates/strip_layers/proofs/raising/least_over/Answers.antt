use Rattle.std.proofs.Common.{◌≡◌, ◌+◌, ◌-◌, ◌^◌, ◌∙◌, ℕ, append_assoc, ap, min, refl, subst}
use Rattle.strip_mask.specs.Iter.{rest_of}
use Rattle.strip_mask.specs.Set.{members}
use Rattle.strip_mask.proofs.Turns.{turn_below, turn_member, turns_all}
use Rattle.strip_film.proofs.Located.{location_lies}
use Rattle.strip_rule.specs.Rule.{open_firsts}
use Rattle.strip_rule.proofs.Firsts.{first_there}
use Rattle.strip_layers.specs.Layer.{value_in}
use Rattle.strip_layers.proofs.Leasts.{IsLeastSo, least_greatest, least_more, least_most, least_none, reach_of, step_by}
use Rattle.strip_layers.proofs.raising.least_over.Goals as goal

pub loop-s-init : goal.loop-s-init
loop-s-init c = record {
  least = least_none (reach_of c.args.film.now c.args.set.0 (value_in c.args.below.now.sets.keys c.args.below.now.standings.items)) (2 ^ 64 - 1) refl;
  turns = ap rest_of c.into_iter-s-iterator.ensures.into_iter_gives ∙ c.iter-s-items.ensures.left ∙ ap members c.open_firsts_with.ensures;
}

pub without-requires : goal.without-requires
without-requires c =
    turn_below (open_firsts c.args.film.now c.args.set.0) c.in-Some.s c.loop-s.yielded (rest_of c.loop-s.s-iterator) (rest_of c.next.new.self)
    c.loop-s.invariant.turns c.in-Some.ensures.steps

pub step_with-requires-clause-known : goal.step_with-requires-clause-known
step_with-requires-clause-known c =
    c.requires c.in-Some.s (first_there c.args.film.now c.args.set.0 c.in-Some.s
    (turn_member (open_firsts c.args.film.now c.args.set.0) c.in-Some.s c.loop-s.yielded (rest_of c.loop-s.s-iterator) (rest_of c.next.new.self)
    c.loop-s.invariant.turns c.in-Some.ensures.steps))

pub step_with-requires-clause-actors : goal.step_with-requires-clause-actors
step_with-requires-clause-actors c = rw c.on-on.ensures (location_lies c.args.film.now c.args.set.0 c.keeps_limits.ensures)

pub loop-s-preserved : goal.loop-s-preserved
loop-s-preserved c =
    let value : ℕ → ℕ = value_in c.args.below.now.sets.keys c.args.below.now.standings.items in
    let here : c.saturating_add.result ≡ min (reach_of c.args.film.now c.args.set.0 value c.in-Some.s) (2 ^ 64 - 1)
    = c.saturating_add.ensures ∙ (λ i. min
    ((c.step_with.ensures ∙ ap (step_by c.args.film.now c.in-Some.s) c.on-on.ensures) i + (c.value_of-behind.ensures ∙ ap value c.without.ensures) i) (2 ^ 64 - 1)) in
    record {
      least = least_more (reach_of c.args.film.now c.args.set.0 value) c.loop-s.yielded c.in-Some.s c.loop-s.least c.saturating_add.result c.min-least.result
          c.loop-s.invariant.least here c.min-least.ensures;
      turns = rw append_assoc (rw (← c.in-Some.ensures.steps) c.loop-s.invariant.turns);
    }

pub returns : goal.returns
returns c =
    let value : ℕ → ℕ = value_in c.args.below.now.sets.keys c.args.below.now.standings.items in
    let all : IsLeastSo (reach_of c.args.film.now c.args.set.0 value) (members (open_firsts c.args.film.now c.args.set.0)) c.loop-s.least
    = subst (λ scenes. IsLeastSo (reach_of c.args.film.now c.args.set.0 value) scenes c.loop-s.least)
    (turns_all (open_firsts c.args.film.now c.args.set.0) c.loop-s.yielded (rest_of c.loop-s.s-iterator) c.loop-s.invariant.turns c.in-None.ensures.steps.0)
    c.loop-s.invariant.least in
    record {
      most = λ scene first. least_most (reach_of c.args.film.now c.args.set.0 value) c.args.film.now c.args.set.0 c.loop-s.least c.keeps_limits.ensures c.requires all scene first;
      greatest = λ cost small each. least_greatest (reach_of c.args.film.now c.args.set.0 value) c.args.film.now c.args.set.0 c.loop-s.least c.keeps_limits.ensures
          c.requires all cost small each;
    }
