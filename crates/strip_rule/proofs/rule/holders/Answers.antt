use Rattle.std.proofs.Common.{length, not, slice_index, ap, ◌∙◌}
use Rattle.strip_mask.specs.Iter.{rest_of}
use Rattle.strip_mask.proofs.Below.{is_set_below}
use Rattle.strip_mask.proofs.Turns.{turn_below, turn_member, turns_all}
use Rattle.strip_rule.specs.Rule.{is_part}
use Rattle.strip_rule.proofs.Left.{left_by, picked}
use Rattle.strip_rule.proofs.rule.holders.Goals as goal

pub bounds-casts-scene : goal.bounds-casts-scene
bounds-casts-scene c =
    rw c.casts-casts.ensures (c.requires c.in-Some.scene
    (turn_member c.args.firsts.0 c.in-Some.scene c.loop-scene.yielded (rest_of c.loop-scene.scene-iterator) (rest_of c.next.new.self) c.loop-scene.invariant.turns c.in-Some.ensures.steps))

pub with-holders-requires : goal.with-holders-requires
with-holders-requires c =
    turn_below c.args.firsts.0 c.in-Some.scene c.loop-scene.yielded (rest_of c.loop-scene.scene-iterator) (rest_of c.next.new.self) c.loop-scene.invariant.turns c.in-Some.ensures.steps

pub returns : goal.returns
returns c =
    picked (λ scene. is_part c.args.on.0 (slice_index c.args.film.now.casts scene)) c.args.firsts.0 c.loop-scene.holders.0
    (is_set_below (length c.args.film.now.casts) c.args.firsts.0 c.keeps_limits.ensures.scene_count.1 c.requires)
    (c.loop-scene.invariant.held
    ∙ ap (left_by (λ scene. not (is_part c.args.on.0 (slice_index c.args.film.now.casts scene))))
    (turns_all c.args.firsts.0 c.loop-scene.yielded (rest_of c.loop-scene.scene-iterator) c.loop-scene.invariant.turns c.in-None.ensures.steps.0))
