use Rattle.std.proofs.Common.{sym, arith}
use Rattle.strip_table.proofs.Places.{used_at}
use Rattle.strip_table.proofs.bucket.Bucket.get.Goals as goal

pub returns : goal.returns
returns c = sym (used_at c.args.self.now.slot.sets c.args.self.now.slot.bounds c.args.self.now.lines c.args.self.now.count c.args.place (omega arith) (omega arith)
    (omega (arith, c.args.self.now.few)) c.if-place-self.false)
