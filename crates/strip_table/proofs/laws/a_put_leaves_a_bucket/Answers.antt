use Rattle.strip_table.proofs.Afterwards.{entries_after}
use Rattle.strip_table.proofs.PutLeaves.{bucket_after}
use Rattle.strip_table.proofs.laws.a_put_leaves_a_bucket.Goals as goal

pub returns : goal.returns
returns c = record {
  bucket = λ buckets number bucket after known answer is own puts. bucket_after buckets number bucket known after answer is own puts;
  entries = entries_after;
}
