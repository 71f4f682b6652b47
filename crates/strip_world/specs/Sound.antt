-- Sound worlds: what holds in each, whatever events came.
use Rattle.std.specs.Prelude.{◌≡◌, ℕ, suc, ◌<◌, ◌≤◌, true, Some, None, List, length, All}
use Rattle.strip_film.specs.declared.shared.Known.{Known}
use Rattle.strip_film.specs.Film.{IsFilm}
use Rattle.strip_film.specs.Path.{PathData, IsComplete, IsPath}
use Rattle.strip_lines.specs.Lines.{AreJustified}
use Rattle.strip_lines.specs.Parts.{AreCounted, lies_in}
use Rattle.strip_table.specs.Home.{stripe_of}
use Rattle.strip_table.specs.Stripe.{IsStripe, bucket_at}
use Rattle.strip_hand.specs.Hand.{Knows}
use Rattle.strip_hand.specs.Search.{AreStarts, SearchData, depth_of, search_rules}
use Rattle.strip_world.specs.World.{WorkerData, WorldData, part_at, stripe_at, worker_at}

-- the worker's best path is complete and costs at least the least cost, and it was told no less and no more than
-- the start's
pub record IsWorker (search : SearchData) (least : ℕ) (worker : WorkerData) : Type 0 where
  pub complete : IsComplete search.film worker.best
  pub no_better : least ≤ worker.best.paid
  pub no_less : least ≤ worker.told
  pub no_more : worker.told ≤ search.start

-- some worker's best path costs the least
pub record HasLeast (world : WorldData) : Type 0 where
  pub who : ℕ
  pub one : who < length world.workers
  pub best : (worker_at world who).best.paid ≡ world.least

-- the stripe of this number: its entries belong to it and are lines
pub record IsStripeOf (world : WorldData) (number : ℕ) (buckets : List (List Known)) : Type 0 where
  pub stripe : IsStripe buckets
  pub count : length buckets ≡ world.buckets
  pub own : (bucket : ℕ) → bucket < length buckets
      → All (λ entry. stripe_of entry.set ≡ number) (bucket_at buckets bucket)
  pub entries : (bucket : ℕ) → bucket < length buckets → All (Knows world.lines) (bucket_at buckets bucket)

-- a part below the next one has a claimer, whose last path is one of the film and lies in it; another part has
-- nothing yet
pub record IsClaimed (world : WorldData) (part : ℕ) : Type 0 where
  pub claimer : part < world.next → (who : ℕ) × (who < length world.workers) × ((part_at world part).claimer ≡ Some who)
  pub free : world.next ≤ part → ((part_at world part).claimer ≡ None) × ((part_at world part).last ≡ None)
      × ((part_at world part).number ≡ 0)
  pub last : (path : PathData) → (part_at world part).last ≡ Some path
      → lies_in (depth_of world.search) world.search.tasks part path ≡ true
  pub own : (path : PathData) → (part_at world part).last ≡ Some path → IsPath world.search.film path

pub record IsSound (world : WorldData) : Type 0 where
  pub film : IsFilm world.search.film
  pub tasks : AreStarts world.search
  pub workers : All (IsWorker world.search world.least) world.workers
  pub least : HasLeast world
  pub few : length world.lines ≤ world.search.nodes
  pub lines : AreJustified (search_rules world.search) world.lines
  pub stripe_count : length world.stripes ≡ 16
  pub stripes : (number : ℕ) → number < 16 → IsStripeOf world number (stripe_at world number)
  pub part_count : length world.parts ≡ suc (length world.search.tasks)
  pub next : world.next ≤ length world.parts
  pub parts : (part : ℕ) → part < length world.parts → IsClaimed world part
  pub counts : AreCounted (search_rules world.search) world.search.start
      (depth_of world.search) world.search.tasks world.lines
      (λ part. (part_at world part).last) (λ part. (part_at world part).number)
