use Rattle.std.proofs.Common.{◌≡◌, ◌++◌, eqb, slice_index}
use Rattle.strip_mask.specs.Set.{members}
use Rattle.strip_mask.specs.Iter.{rest_of}
use Rattle.strip_film.proofs.Turned.{AreFound}
use Rattle.strip_film.proofs.running.without_scenes.Given as goal

abbrev pub invariant-loop-actor : goal.invariant-loop-actor
invariant-loop-actor l = record {
  found : AreFound (λ actor. eqb (slice_index l.counts actor) 0) l.yielded l.found.0;
  turns : l.yielded ++ rest_of l.actor-iterator ≡ members l.fn.cast.0;
}
