-- What contracts see of the parts that a stripe is laid out in, and of a bucket.
use Rattle.std.specs.Prelude.{◌≡◌, ℕ, ◌≤◌, List, [], ◌∷◌, length, take, All}
use Rattle.strip_film.specs.declared.shared.Known.{Known}
use Rattle.strip_table.specs.declared.slot.Slot.{Slot}
use Rattle.strip_table.specs.declared.bucket.Bucket.{Bucket}
use Rattle.strip_table.specs.Stripe.{IsStripe}

-- the entries of these sets, bounds and lines, place by place
abbrev pub entries_of : List ℕ → List ℕ → List ℕ → List Known
entries_of [] bounds lines = []
entries_of (set ∷ sets) [] lines = []
entries_of (set ∷ sets) (bound ∷ bounds) [] = []
entries_of (set ∷ sets) (bound ∷ bounds) (line ∷ lines) =
    record { line = line; set = set; bound = bound } ∷ entries_of sets bounds lines

-- the first entries of a slot with its lines, as many as are used
abbrev pub used : Slot → List ℕ → ℕ → List Known
used slot lines count = take count (entries_of slot.sets slot.bounds lines)

abbrev pub bucket_data : Bucket → List Known
bucket_data bucket = used bucket.slot bucket.lines bucket.count

-- the buckets of these slots, lines and counts
abbrev pub stripe_data : List Slot → List (List ℕ) → List ℕ → List (List Known)
stripe_data [] lines counts = []
stripe_data (slot ∷ slots) [] counts = []
stripe_data (slot ∷ slots) (line ∷ lines) [] = []
stripe_data (slot ∷ slots) (line ∷ lines) (count ∷ counts) = used slot line count ∷ stripe_data slots lines counts

-- as many lines and counts as slots, no count above the places, and the buckets are a stripe
pub record IsLaidOut (slots : List Slot) (lines : List (List ℕ)) (counts : List ℕ) : Type 0 where
  pub line_count : length lines ≡ length slots
  pub count_count : length counts ≡ length slots
  pub few : All (λ count. count ≤ 4) counts
  pub stripe : IsStripe (stripe_data slots lines counts)
