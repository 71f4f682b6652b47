use Rattle.std.proofs.Common.{ℕ, ◌/◌, ◌%◌, ◌^◌, ap}
use Rattle.strip_table.specs.Home.{bucket_of}
use Rattle.strip_table.proofs.home.bucket_of.Goals as goal

pub returns-clause-bucket : goal.returns-clause-bucket
unfolding bucket_of
returns-clause-bucket c = ap (λ (h : ℕ). h / 2 ^ 28 % 2 ^ 32 % c.args.buckets) c.hash.ensures
