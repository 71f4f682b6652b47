-- A sound world stays sound where a worker notes a line.
use Rattle.std.proofs.Common.{◌≡◌, ℕ, ◌<◌, Some, List, [], length, slice_set, All, inl, inr, refl, sym, ap, ◌∙◌, subst, arith}
use Rattle.std.proofs.lemmas.Bool.{cases_eq}
use Rattle.std.proofs.lemmas.List.{length-set, get_or-set_same, get_or-set_other}
use Rattle.strip_film.specs.declared.shared.Known.{Known}
use Rattle.strip_film.specs.declared.shared.Noted.{Noted}
use Rattle.strip_lines.proofs.Grown.{grow_self}
use Rattle.strip_table.specs.Home.{bucket_of, stripe_of}
use Rattle.strip_table.specs.Bucket.{Puts}
use Rattle.strip_table.specs.Stripe.{bucket_at, home}
use Rattle.strip_table.proofs.Homes.{bucket_below, stripe_below}
use Rattle.strip_table.proofs.PutLeaves.{all_after, bucket_after}
use Rattle.strip_table.proofs.Stripes.{IsStripe-set}
use Rattle.strip_world.specs.World.{WorkerData, WorldData, stripe_at, worker_at}
use Rattle.strip_hand.specs.Hand.{Knows}
use Rattle.strip_world.specs.Sound.{IsSound, IsStripeOf}
use Rattle.strip_world.specs.Steps.{IsNoted, with_worker}
use Rattle.strip_world.proofs.Stays.{claim_stays, stripe_grows}
use Rattle.strip_world.proofs.Workers.{is_worker, least_stays, sound_changed}

-- ---- the table

-- what holds of the new line and of each entry of a bucket holds where the bucket is written
written : (P : Known → Type 0) (buckets : List (List Known)) (place : ℕ) (bucket : List Known) → place < length buckets → All P bucket
    → ((other : ℕ) → other < length buckets → All P (bucket_at buckets other))
    → (other : ℕ) → other < length buckets → All P (bucket_at (slice_set buckets place bucket) other)
written P buckets place bucket lt new all other within = elim (cases_eq other place) [
  | inl same ↦ subst (λ (b : List Known). All P b)
      (sym (ap (λ (o : ℕ). bucket_at (slice_set buckets place bucket) o) same ∙ get_or-set_same buckets place bucket [] lt)) new
  | inr apart ↦ subst (λ (b : List Known). All P b) (sym (get_or-set_other buckets place other bucket [] apart)) (all other within)
]

module _ (world : WorldData) (known : Known) (bucket : List Known) (answer : Noted) (sound : IsSound world) (may : Knows world.lines known) where
  abbrev stripe : ℕ
  stripe = stripe_of known.set

  abbrev old : List (List Known)
  old = stripe_at world stripe

  abbrev place : ℕ
  place = bucket_of known.set (length old)

  -- the stripe of the set with its bucket put
  abbrev new : List (List Known)
  new = slice_set old place bucket

  abbrev table : List (List (List Known))
  table = slice_set world.stripes stripe new

  -- the world with this table
  abbrev pub tabled : WorldData
  tabled = record world { stripes = table }

  module _ (puts : Puts (home old known.set) known bucket answer) where
    was : IsStripeOf world stripe old
    was = sound.stripes stripe (stripe_below known.set)

    place_within : place < length old
    place_within = bucket_below (length old) known.set was.stripe.some

    entry : Knows world.lines known
    entry = record { there = may.there; set = may.set; as_great = may.as_great }

    new_stripe : IsStripeOf tabled stripe new
    new_stripe =
        let long : length new ≡ length old = length-set old place bucket in
        record {
          stripe = IsStripe-set old place bucket was.stripe place_within
              (bucket_after (length old) place (home old known.set) known bucket answer (was.stripe.buckets place place_within) refl puts);
          count = long ∙ was.count;
          own = λ other within. written (λ (e : Known). stripe_of e.set ≡ stripe) old place bucket place_within
              (all_after (λ (e : Known). stripe_of e.set ≡ stripe) (home old known.set) known bucket answer puts refl (was.own place place_within))
              was.own other (omega (arith, within, long));
          entries = λ other within. written (Knows world.lines) old place bucket place_within
              (all_after (Knows world.lines) (home old known.set) known bucket answer puts entry (was.entries place place_within))
              was.entries other (omega (arith, within, long));
        }

    stripes : (number : ℕ) → number < 16 → IsStripeOf tabled number (stripe_at tabled number)
    stripes number within = elim (cases_eq number stripe) [
      | inl same ↦ (
          let here : stripe_at tabled stripe ≡ new = get_or-set_same world.stripes stripe new [] (omega (arith, stripe_below known.set, sound.stripe_count)) in
          subst (λ (n : ℕ). IsStripeOf tabled n (stripe_at tabled n)) (sym same) (subst (IsStripeOf tabled stripe) (sym here) new_stripe))
      | inr apart ↦ (
          let there : stripe_at tabled number ≡ stripe_at world number = get_or-set_other world.stripes stripe number new [] apart in
          subst (IsStripeOf tabled number) (sym there)
          (stripe_grows world tabled number (stripe_at world number) refl (grow_self world.lines) (sound.stripes number within)))
    ]

    sound_tabled : IsSound tabled
    sound_tabled = record {
      film = sound.film;
      tasks = sound.tasks;
      workers = sound.workers;
      least = record { who = sound.least.who; one = sound.least.one; best = sound.least.best };
      few = sound.few;
      lines = sound.lines;
      stripe_count = length-set world.stripes stripe new ∙ sound.stripe_count;
      stripes = stripes;
      part_count = sound.part_count;
      next = sound.next;
      parts = λ part within. claim_stays world tabled part refl (omega arith) (λ below. below) (λ above. above) refl (sound.parts part within);
      counts = sound.counts;
    }

-- ---- the worker's note

module _ (world : WorldData) (who : ℕ) (known : Known) (lt : who < length world.workers) (sound : IsSound world) where
  abbrev noting : WorkerData
  noting = record (worker_at world who) { note = Some known }

  pub sound_noting : IsSound (with_worker world who noting)
  sound_noting =
      sound_changed world who noting world.least lt sound (omega arith) (record {
        complete = (is_worker world who lt sound).complete;
        no_better = (is_worker world who lt sound).no_better;
        no_less = (is_worker world who lt sound).no_less;
        no_more = (is_worker world who lt sound).no_more;
      })
      (least_stays world who noting world.least lt sound.least refl (λ is. refl))

pub sound_noted : (world : WorldData) (who : ℕ) (known : Known) (after : WorldData) (answer : Noted) → who < length world.workers → IsSound world
    → Knows world.lines known → IsNoted world who known after answer → IsSound after
sound_noted world who known after answer lt sound may noted =
    subst IsSound
    (sym (noted.others ∙ ap (λ (t : List (List (List Known))). record (with_worker world who (noting world who known lt sound)) { stripes = t }) noted.table))
    (sound_noting (tabled world known bucket answer sound may) who known lt (sound_tabled world known bucket answer sound may noted.puts))
  where
    bucket : List Known
    bucket = home (stripe_at after (stripe_of known.set)) known.set
