use Rattle.strip_mask.specs.Iter.{rest_of}
use Rattle.strip_mask.proofs.Turns.{turn_member}
use Rattle.strip_film.proofs.shoot.cast_of.Goals as goal

pub bounds-casts-scene : goal.bounds-casts-scene
bounds-casts-scene c =
    rw c.casts-casts.ensures (c.requires c.in-Some.scene
    (turn_member c.args.q.0 c.in-Some.scene c.loop-scene.yielded (rest_of c.loop-scene.scene-iterator) (rest_of c.next.new.self) c.loop-scene.invariant.turns c.in-Some.ensures.steps))
