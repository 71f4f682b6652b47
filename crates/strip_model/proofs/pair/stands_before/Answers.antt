use Rattle.std.proofs.Common.{◌+◌, ◌-◌, length, drop, refl, arith, length-drop}
use Rattle.std.proofs.lemmas.List.{take_all}
use Rattle.strip_model.proofs.Ahead.{stands_at}
use Rattle.strip_model.proofs.pair.stands_before.Goals as goal

pub returns-then-stands_in : goal.returns-then-stands_in
returns-then-stands_in c = (
  λ yes. stands_at c.args.first c.args.then c.args.order.now c.loop-place.place c.loop-place-test.true c.if-scene-first.true
      (rw (take_all (length c.args.order.now - (c.loop-place.place + 1)) (drop (c.loop-place.place + 1) c.args.order.now)
      (omega (arith, length-drop (c.loop-place.place + 1) c.args.order.now))) at (c.stands_in.ensures.0 c.if-stands_in.true)),
  λ stands. refl,
)
