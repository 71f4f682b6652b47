-- The stripe and the bucket of a set lie within their limits.
use Rattle.std.proofs.Common.{ℕ, ◌*◌, ◌/◌, ◌%◌, ◌^◌, ◌<◌, arith}
use Rattle.std.proofs.lemmas.Nat.{mod_below, shr_below}
use Rattle.strip_table.specs.Home.{bucket_of, hash, stripe_of}

hash_below : (set : ℕ) → hash set < 2 ^ 64
unfolding hash
hash_below set = mod_below (set * 0x9E3779B97F4A7C15) (2 ^ 64) (omega arith)

pub stripe_below : (set : ℕ) → stripe_of set < 16
unfolding stripe_of
stripe_below set = shr_below (hash set) 4 60 (hash_below set)

pub bucket_below : (buckets set : ℕ) → 0 < buckets → bucket_of set buckets < buckets
unfolding bucket_of
bucket_below buckets set some = mod_below (hash set / 2 ^ 28 % 2 ^ 32) buckets some
