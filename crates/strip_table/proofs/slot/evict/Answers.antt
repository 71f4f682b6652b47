use Rattle.std.proofs.Common.{arith}
use Rattle.strip_table.specs.Shown.{entries_of}
use Rattle.strip_table.proofs.Places.{entries_of-remove}
use Rattle.strip_table.proofs.Made.{made_evicted}
use Rattle.strip_table.proofs.slot.evict.Goals as goal

pub returns : goal.returns
returns c = made_evicted c.args.slot.now.sets c.args.slot.now.bounds c.args.lines.now (omega arith) (omega arith) c.args.known.now
    c.fewest-place.result (entries_of c.close_up.new.list c.close_up-2.new.list c.close_up-3.new.list) (omega arith) c.requires
    c.fewest-place.ensures.within c.fewest-place.ensures.fewest c.fewest-place.ensures.first
    (rw (c.close_up.ensures, c.close_up-2.ensures, c.close_up-3.ensures)
    (entries_of-remove c.args.slot.now.sets c.args.slot.now.bounds c.args.lines.now c.fewest-place.result _ _ _ (omega arith) (omega arith) (omega arith)))
