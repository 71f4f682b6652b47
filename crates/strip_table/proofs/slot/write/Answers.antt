use Rattle.strip_table.proofs.Places.{entries_of-set}
use Rattle.strip_table.proofs.slot.write.Goals as goal

pub returns : goal.returns
returns c = entries_of-set c.args.slot.now.sets c.args.slot.now.bounds c.args.lines.now c.args.place c.args.known.now.set c.args.known.now.bound c.args.known.now.line
