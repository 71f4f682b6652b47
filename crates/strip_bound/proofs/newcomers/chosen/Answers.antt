use Rattle.std.proofs.Common.{◌≡◌, ℕ, ◌<◌, List, All, length, slice_index, take, ap, sym, subst, ◌∙◌, arith, append_assoc}
use Rattle.std.proofs.lemmas.List.Elements.{All-take}
use Rattle.strip_mask.specs.Iter.{rest_of}
use Rattle.strip_mask.specs.Set.{members}
use Rattle.strip_mask.proofs.Members.{has_from_members, members-empty}
use Rattle.strip_mask.proofs.Turns.{turn_below, turns_all}
use Rattle.strip_bound.specs.Bounds.{score}
use Rattle.strip_bound.specs.Falling.{by_falling, placed}
use Rattle.strip_bound.proofs.Coming.{falls_alike, first_more}
use Rattle.strip_bound.proofs.newcomers.chosen.Goals as goal

pub returns-then-is_empty : goal.returns-then-is_empty
returns-then-is_empty c =
    let value : ℕ → ℕ = score c.args.film.now c.args.q.0 c.args.group.0 in
    let none : c.args.newcomers.0 ≡ 0 = c.is_empty.ensures.0 c.if-is_empty.true in
    c.new-best.ensures ∙ sym (ap (λ (xs : List ℕ). take 2 (by_falling value xs)) (ap members none ∙ members-empty))

pub place-requires-clause-known : goal.place-requires-clause-known
place-requires-clause-known c =
    let below : c.in-Some.newcomer < 64 = turn_below c.args.newcomers.0 c.in-Some.newcomer c.loop-newcomer.yielded
    (rest_of c.loop-newcomer.newcomer-iterator) (rest_of c.next.new.self) c.loop-newcomer.invariant.turns c.in-Some.ensures.steps in
    omega (arith, below, c.scores-scores.ensures.long)

pub loop-newcomer-preserved : goal.loop-newcomer-preserved
loop-newcomer-preserved c =
    let value : ℕ → ℕ = slice_index c.scores-scores.result in
    record {
      best = c.truncate.ensures.items ∙ ap (take 2) (c.place.ensures.items ∙ ap (λ (xs : List ℕ). placed value xs c.in-Some.newcomer) c.loop-newcomer.invariant.best)
          ∙ first_more value 2 c.loop-newcomer.yielded c.in-Some.newcomer;
      listed = subst (All (λ other. other < length c.scores-scores.result)) (sym c.truncate.ensures.items)
          (All-take (λ other. other < length c.scores-scores.result) 2 c.place.new.actors.items c.place.ensures.listed);
      turns = rw append_assoc (rw (← c.in-Some.ensures.steps) c.loop-newcomer.invariant.turns);
    }

pub returns : goal.returns
returns c = c.loop-newcomer.invariant.best
    ∙ ap (λ (xs : List ℕ). take 2 (by_falling (slice_index c.scores-scores.result) xs))
    (turns_all c.args.newcomers.0 c.loop-newcomer.yielded (rest_of c.loop-newcomer.newcomer-iterator) c.loop-newcomer.invariant.turns c.in-None.ensures.steps.0)
    ∙ ap (take 2) (falls_alike (slice_index c.scores-scores.result) (score c.args.film.now c.args.q.0 c.args.group.0) (members c.args.newcomers.0)
    (λ newcomer there. c.scores-scores.ensures.scores newcomer (has_from_members c.args.newcomers.0 newcomer there)))
