use Rattle.std.proofs.Common.{sym, arith}
use Rattle.strip_table.proofs.Places.{length-used}
use Rattle.strip_table.proofs.bucket.Bucket.len.Goals as goal

pub returns : goal.returns
returns c = sym (length-used c.args.self.now.slot.sets c.args.self.now.slot.bounds c.args.self.now.lines c.args.self.now.count
    (omega arith) (omega arith) (omega (arith, c.args.self.now.few)))
