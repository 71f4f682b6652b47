use Rattle.std.proofs.Common.{◌≡◌, ℕ, ◌<◌, [], ◌∷◌, fold, length, slice_index, ap, sym, ◌∙◌, arith, append_assoc}
use Rattle.std.proofs.lemmas.Grind.{get_or_default_zero}
use Rattle.std.proofs.lemmas.List.Sums.{fold-append}
use Rattle.strip_mask.specs.Iter.{rest_of}
use Rattle.strip_mask.specs.Set.{has, union}
use Rattle.strip_mask.proofs.Turns.{turn_member, turns_all}
use Rattle.strip_bound.proofs.Coming.{any_of}
use Rattle.strip_bound.proofs.newcomers.scenes_with_any.Goals as goal

pub index-requires : goal.index-requires
index-requires c =
    let known : c.in-Some.actor < length c.args.film.now.rates = c.requires.actors c.in-Some.actor (turn_member c.args.actors.0 c.in-Some.actor c.loop-actor.yielded
    (rest_of c.loop-actor.actor-iterator) (rest_of c.next.new.self) c.loop-actor.invariant.turns c.in-Some.ensures.steps) in
    omega (arith, known, c.requires.tables.plays.count)

pub loop-actor-preserved : goal.loop-actor-preserved
loop-actor-preserved c =
    let plays = c.args.tables.now.plays.items in
    let actor : ℕ = c.in-Some.actor in
    let known : actor < length c.args.film.now.rates = c.requires.actors actor (turn_member c.args.actors.0 actor c.loop-actor.yielded
    (rest_of c.loop-actor.actor-iterator) (rest_of c.next.new.self) c.loop-actor.invariant.turns c.in-Some.ensures.steps) in
    let of_actor : c.index.result.now ≡ slice_index plays actor
    = c.index.ensures ∙ get_or_default_zero plays actor c.index.result.now (omega (arith, known, c.requires.tables.plays.count)) in
    record {
      scenes = c.union-scenes.ensures ∙ (λ i. union (c.loop-actor.invariant.scenes i) (of_actor i))
          ∙ sym (fold-append (λ set actor. union set (slice_index plays actor)) 0 c.loop-actor.yielded (actor ∷ []));
      turns = rw append_assoc (rw (← c.in-Some.ensures.steps) c.loop-actor.invariant.turns);
    }

pub returns : goal.returns
returns c scene =
    let plays = c.args.tables.now.plays.items in
    ap (λ (set : ℕ). has set scene) (c.loop-actor.invariant.scenes
    ∙ ap (fold (λ set actor. union set (slice_index plays actor)) 0)
    (turns_all c.args.actors.0 c.loop-actor.yielded (rest_of c.loop-actor.actor-iterator) c.loop-actor.invariant.turns c.in-None.ensures.steps.0))
    ∙ any_of c.args.film.now plays c.requires.tables.plays c.args.actors.0 scene
