-- Where the entry of a set may stand: its stripe of 16, and its bucket among those of the stripe.
use Rattle.std.specs.Prelude.{ℕ, ◌*◌, ◌/◌, ◌%◌, ◌^◌}

-- the set times an odd number near 2 ^ 64 / 1.618
unfoldable pub hash : ℕ → ℕ
hash set = set * 0x9E3779B97F4A7C15 % 2 ^ 64

-- the four highest bits of the hash
unfoldable pub stripe_of : ℕ → ℕ
stripe_of set = hash set / 2 ^ 60

-- the 32 bits below these four, over so many buckets
unfoldable pub bucket_of : ℕ → ℕ → ℕ
bucket_of set buckets = hash set / 2 ^ 28 % 2 ^ 32 % buckets
