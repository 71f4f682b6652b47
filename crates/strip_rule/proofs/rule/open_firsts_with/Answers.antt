use Rattle.std.proofs.Common.{ℕ, append_assoc, sym, ap, ◌∙◌}
use Rattle.strip_mask.specs.Set.{with}
use Rattle.strip_mask.specs.Iter.{rest_of}
use Rattle.strip_mask.proofs.Turns.{turn_below, turn_member}
use Rattle.strip_film.specs.Shoot.{ready}
use Rattle.strip_rule.specs.Rule.{is_ruled_out}
use Rattle.strip_rule.proofs.Left.{left_by-keeps, left_by-drops}
use Rattle.strip_rule.proofs.Held.{ready_lies, holders_lie, all_open, test_is}
use Rattle.strip_rule.proofs.rule.open_firsts_with.Goals as goal

pub holders-holders-requires : goal.holders-holders-requires
holders-holders-requires c = rw c.ready-firsts.ensures (ready_lies c.args.film.now c.args.q.0 c.requires.lies)

pub returns-then-is_empty : goal.returns-then-is_empty
returns-then-is_empty c = rw c.ready-firsts.ensures
    (all_open c.args.film.now c.args.q.0 c.holders-holders.result.0 c.keeps_limits.ensures c.requires.lies
    (rw (c.ready-firsts.ensures, c.requires.on) at c.holders-holders.ensures) (c.is_empty.ensures.0 c.if-is_empty.true))

pub is_ruled_out_by-requires-clause-lies : goal.is_ruled_out_by-requires-clause-lies
is_ruled_out_by-requires-clause-lies c =
    holders_lie c.args.film.now c.args.q.0 c.holders-holders.result.0 c.keeps_limits.ensures c.requires.lies
    (rw (c.ready-firsts.ensures, c.requires.on) at c.holders-holders.ensures)

pub is_ruled_out_by-requires-clause-scene : goal.is_ruled_out_by-requires-clause-scene
is_ruled_out_by-requires-clause-scene c = ready_lies c.args.film.now c.args.q.0 c.requires.lies c.in-Some.scene
    (turn_member (ready c.args.film.now c.args.q.0) c.in-Some.scene c.loop-scene.yielded (rest_of c.loop-scene.scene-iterator) (rest_of c.next.new.self) c.loop-scene.invariant.turns c.in-Some.ensures.steps)

pub with-open-requires : goal.with-open-requires
with-open-requires c =
    turn_below (ready c.args.film.now c.args.q.0) c.in-Some.scene c.loop-scene.yielded (rest_of c.loop-scene.scene-iterator) (rest_of c.next.new.self) c.loop-scene.invariant.turns c.in-Some.ensures.steps

pub loop-scene-preserved-then-not-is_ruled_out_by : goal.loop-scene-preserved-then-not-is_ruled_out_by
loop-scene-preserved-then-not-is_ruled_out_by c = record {
  free = c.with-open.ensures ∙ ap (λ (q : ℕ). with q c.in-Some.scene) c.loop-scene.invariant.free
      ∙ sym (left_by-keeps (is_ruled_out c.args.film.now c.args.q.0) c.loop-scene.yielded c.in-Some.scene
      (test_is c.args.film.now c.args.q.0 c.holders-holders.result.0 c.keeps_limits.ensures c.requires.lies
      (rw (c.ready-firsts.ensures, c.requires.on) at c.holders-holders.ensures) c.in-Some.scene c.is_ruled_out_by.result
      (turn_member (ready c.args.film.now c.args.q.0) c.in-Some.scene c.loop-scene.yielded (rest_of c.loop-scene.scene-iterator) (rest_of c.next.new.self) c.loop-scene.invariant.turns c.in-Some.ensures.steps)
      (c.is_ruled_out_by.ensures c.args.q.0 c.requires.on) ∙ c.if-not-is_ruled_out_by.true));
  turns = rw append_assoc (rw (← c.in-Some.ensures.steps) c.loop-scene.invariant.turns);
}

pub loop-scene-preserved : goal.loop-scene-preserved
loop-scene-preserved c = record {
  free = c.loop-scene.invariant.free
      ∙ sym (left_by-drops (is_ruled_out c.args.film.now c.args.q.0) c.loop-scene.yielded c.in-Some.scene
      (test_is c.args.film.now c.args.q.0 c.holders-holders.result.0 c.keeps_limits.ensures c.requires.lies
      (rw (c.ready-firsts.ensures, c.requires.on) at c.holders-holders.ensures) c.in-Some.scene c.is_ruled_out_by.result
      (turn_member (ready c.args.film.now c.args.q.0) c.in-Some.scene c.loop-scene.yielded (rest_of c.loop-scene.scene-iterator) (rest_of c.next.new.self) c.loop-scene.invariant.turns c.in-Some.ensures.steps)
      (c.is_ruled_out_by.ensures c.args.q.0 c.requires.on) ∙ c.if-not-is_ruled_out_by.false));
  turns = rw append_assoc (rw (← c.in-Some.ensures.steps) c.loop-scene.invariant.turns);
}
