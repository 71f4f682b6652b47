use Rattle.std.proofs.Common.{arith}
use Rattle.strip_table.proofs.Places.{place_below}
use Rattle.strip_table.proofs.Made.{made_kept, made_raised}
use Rattle.strip_table.proofs.slot.raise.Goals as goal

pub bounds-slot-place : goal.bounds-slot-place
bounds-slot-place c = omega (arith, place_below c.args.slot.now.sets c.args.count c.args.known.now.set c.args.place c.requires.place, c.requires.few)

pub returns-then-known-bound : goal.returns-then-known-bound
returns-then-known-bound c = made_kept c.args.slot.now.sets c.args.slot.now.bounds c.args.lines.now (omega arith) (omega arith) c.args.known.now
    c.args.count c.args.place (omega arith) c.requires.place (omega (arith, c.if-known-bound.true))

pub returns : goal.returns
returns c = made_raised c.args.slot.now.sets c.args.slot.now.bounds c.args.lines.now (omega arith) (omega arith) c.args.known.now
    c.args.count c.args.place _ (omega arith) c.requires.place (omega (arith, c.if-known-bound.false)) c.write.ensures

pub write-requires : goal.write-requires
write-requires c = omega (arith, place_below c.args.slot.now.sets c.args.count c.args.known.now.set c.args.place c.requires.place, c.requires.few)
