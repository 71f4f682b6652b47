use Rattle.strip_table.proofs.Homes.{bucket_below, stripe_below}
use Rattle.strip_table.proofs.laws.sets_belong_to_a_bucket.Goals as goal

pub returns : goal.returns
returns c = record { stripe = stripe_below; bucket = bucket_below }
