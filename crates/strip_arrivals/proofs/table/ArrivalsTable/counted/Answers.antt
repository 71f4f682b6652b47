use Rattle.std.proofs.Common.{◌≡◌, ℕ, ◌+◌, ◌^◌, ◌==◌, Bool, true, false, cond, length, refl, sym, ap, ◌∙◌, append_assoc, arith}
use Rattle.std.proofs.Math.Pow.{pow_pos}
use Rattle.strip_mask.specs.Iter.{rest_of}
use Rattle.strip_mask.proofs.Turns.{turn_below, turn_member, turns_all}
use Rattle.strip_sets.specs.Numbers.{number}
use Rattle.strip_arrivals.proofs.ByPlace.{cast_small}
use Rattle.strip_arrivals.proofs.Counted.{counts_are, counts_fit, counts_more, counts_most, within_none}
use Rattle.strip_arrivals.proofs.Tables.{known_set}
use Rattle.strip_arrivals.proofs.table.ArrivalsTable.counted.Goals as goal

-- a table has a block
pub start-requires-clause-some : goal.start-requires-clause-some
start-requires-clause-some g c = (let some = pow_pos c.args.higher in omega (arith, some, c.requires.sized))

pub loop-scene-init : goal.loop-scene-init
loop-scene-init g c =
    let sized : length c.start.new.table ≡ 2 ^ c.args.higher = c.start.ensures.length ∙ c.requires.sized in
    record {
      sized = sized;
      so_far = λ places. within_none (c.args.higher + g.B.BySet.places) (number g.B.BySet.value g.B.BySet.places c.start.new.table) places (λ set lt.
          c.start.ensures.each set (known_set (length c.args.table.now) c.args.higher g.B.BySet.places set c.requires.sized lt) ∙ nothing (set == 0));
      turns = ap rest_of c.into_iter-scene-iterator.ensures.into_iter_gives ∙ c.iter-scene-items.ensures.left;
    }
  where
    nothing : (b : Bool) → cond {A = ℕ} b 0 0 ≡ 0
    nothing true = refl
    nothing false = refl

pub bounds-crew-scene : goal.bounds-crew-scene
bounds-crew-scene g c = turn_below c.args.scenes.0 c.in-Some.scene c.loop-scene.yielded (rest_of c.loop-scene.scene-iterator) (rest_of c.next.new.self) c.loop-scene.invariant.turns c.in-Some.ensures.steps

pub bounds-numbers-scene : goal.bounds-numbers-scene
bounds-numbers-scene g c = c.requires.long c.in-Some.scene (turn_member c.args.scenes.0 c.in-Some.scene c.loop-scene.yielded (rest_of c.loop-scene.scene-iterator) (rest_of c.next.new.self) c.loop-scene.invariant.turns c.in-Some.ensures.steps)

pub add-requires-clause-known : goal.add-requires-clause-known
add-requires-clause-known g c = known_set (length c.loop-scene.table) c.args.higher g.B.BySet.places _ c.loop-scene.invariant.sized
    (cast_small (c.args.higher + g.B.BySet.places) c.args.self.now c.args.crew.now c.requires.crew c.requires.group c.in-Some.scene)

pub add-requires-clause-fits : goal.add-requires-clause-fits
add-requires-clause-fits g c = counts_fit c.args.crew.now.casts c.args.numbers.now c.sums_below_have_what_is_added.ensures (c.args.higher + g.B.BySet.places)
    (cast_small (c.args.higher + g.B.BySet.places) c.args.self.now c.args.crew.now c.requires.crew c.requires.group)
    (number g.B.BySet.value g.B.BySet.places c.loop-scene.table) c.loop-scene.yielded c.loop-scene.invariant.so_far c.args.scenes.0 c.in-Some.scene g.B.BySet.most
    (rest_of c.loop-scene.scene-iterator) (rest_of c.next.new.self) c.loop-scene.invariant.turns c.in-Some.ensures.steps c.requires.fits

pub loop-scene-preserved : goal.loop-scene-preserved
loop-scene-preserved g c = record {
  sized = c.add.ensures.length ∙ c.loop-scene.invariant.sized;
  so_far = counts_more c.args.crew.now.casts c.args.numbers.now c.sums_below_have_what_is_added.ensures (c.args.higher + g.B.BySet.places)
      (cast_small (c.args.higher + g.B.BySet.places) c.args.self.now c.args.crew.now c.requires.crew c.requires.group)
      (number g.B.BySet.value g.B.BySet.places c.loop-scene.table) c.loop-scene.yielded c.loop-scene.invariant.so_far c.in-Some.scene
      (number g.B.BySet.value g.B.BySet.places c.add.new.table)
      (λ other lt. c.add.ensures.each other (known_set (length c.loop-scene.table) c.args.higher g.B.BySet.places other c.loop-scene.invariant.sized lt));
  turns = rw append_assoc (rw (← c.in-Some.ensures.steps) c.loop-scene.invariant.turns);
}

pub below-requires-clause-sized : goal.below-requires-clause-sized
below-requires-clause-sized g c = c.loop-scene.invariant.sized

pub below-requires-clause-fits : goal.below-requires-clause-fits
below-requires-clause-fits g c = counts_most c.args.crew.now.casts c.args.numbers.now c.sums_below_have_what_is_added.ensures (c.args.higher + g.B.BySet.places)
    (cast_small (c.args.higher + g.B.BySet.places) c.args.self.now c.args.crew.now c.requires.crew c.requires.group)
    (number g.B.BySet.value g.B.BySet.places c.loop-scene.table) c.loop-scene.yielded c.loop-scene.invariant.so_far c.args.scenes.0 g.B.BySet.most
    (rest_of c.loop-scene.scene-iterator) c.loop-scene.invariant.turns c.in-None.ensures.steps.0 c.requires.fits

pub returns-clause-length : goal.returns-clause-length
returns-clause-length g c = c.below.ensures.length ∙ c.loop-scene.invariant.sized ∙ sym c.requires.sized

pub returns-clause-counted : goal.returns-clause-counted
returns-clause-counted g c = λ places lt. c.below.ensures.each places lt ∙ c.loop-scene.invariant.so_far places
    ∙ counts_are (c.args.higher + g.B.BySet.places) c.args.self.now c.args.crew.now c.requires.crew c.requires.group c.args.numbers.now c.args.scenes.0 c.loop-scene.yielded
    (turns_all c.args.scenes.0 c.loop-scene.yielded (rest_of c.loop-scene.scene-iterator) c.loop-scene.invariant.turns c.in-None.ensures.steps.0) c.requires.within places
