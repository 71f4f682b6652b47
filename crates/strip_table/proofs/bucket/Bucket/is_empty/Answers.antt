use Rattle.std.proofs.Common.{ℕ, ◌==◌, ap, sym, arith}
use Rattle.strip_table.proofs.Places.{length-used}
use Rattle.strip_table.proofs.bucket.Bucket.is_empty.Goals as goal

pub returns : goal.returns
returns c = ap (λ (n : ℕ). n == 0) (sym (length-used c.args.self.now.slot.sets c.args.self.now.slot.bounds c.args.self.now.lines c.args.self.now.count
    (omega arith) (omega arith) (omega (arith, c.args.self.now.few))))
