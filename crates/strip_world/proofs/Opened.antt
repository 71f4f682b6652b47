-- A search opens with a sound world.
use Rattle.std.proofs.Common.{◌≡◌, Some, ℕ, suc, ◌/◌, ◌<◌, ◌^◌, None, List, [], length, replicate, All, inl, inr, sym, ap, subst, arith}
use Rattle.std.proofs.lemmas.Bool.{cases_lt}
use Rattle.std.proofs.lemmas.List.{get_or-replicate, get_or_past, length-replicate}
use Rattle.std.proofs.lemmas.List.Elements.{All-nil, All-replicate}
use Rattle.strip_model.specs.declared.kind.Kind.{Kind}
use Rattle.strip_model.specs.Film.{FilmData}
use Rattle.strip_film.specs.declared.shared.Known.{Known}
use Rattle.strip_film.specs.declared.shared.Line.{Line}
use Rattle.strip_film.specs.Film.{IsFilm, LiesIn}
use Rattle.strip_film.specs.Path.{PathData, IsComplete}
use Rattle.strip_lines.specs.Lines.{IsJustified}
use Rattle.strip_lines.specs.Parts.{AreCounted}
use Rattle.strip_lines.proofs.Shares.{counted_none}
use Rattle.strip_table.specs.Home.{bucket_of, stripe_of}
use Rattle.strip_table.specs.Bucket.{IsBucket}
use Rattle.strip_table.specs.Stripe.{IsStripe, bucket_at}
use Rattle.strip_hand.specs.declared.limits.Limits.{Limits}
use Rattle.strip_hand.specs.Search.{AreStarts, depth_of, search_rules}
use Rattle.strip_world.specs.World.{PartData, WorkerData, WorldData, no_part, no_worker, part_at, stripe_at}
use Rattle.strip_world.specs.Opened.{opened, search_of}
use Rattle.strip_hand.specs.Limits.{AreLimits}
use Rattle.strip_hand.specs.Hand.{Knows}
use Rattle.strip_world.specs.Sound.{HasLeast, IsClaimed, IsSound, IsStripeOf, IsWorker}

-- ---- empty buckets

empty_bucket : (buckets number : ℕ) → IsBucket buckets number []
empty_bucket buckets number = record {
  few = omega arith;
  once = λ i j d lt within. absurd (omega (arith, lt, within));
  own = All-nil (λ (entry : Known). bucket_of entry.set buckets ≡ number);
}

read_empty : (n number : ℕ) → bucket_at (replicate n []) number ≡ []
read_empty n number = elim (cases_lt number n) [
  | inl within ↦ get_or-replicate n number [] [] within
  | inr past ↦ get_or_past (replicate n []) number [] (omega (arith, past, length-replicate {A = List Known} n []))
]

empty_stripe : (n : ℕ) → 0 < n → n < 2 ^ 32 → IsStripe (replicate n [])
empty_stripe n some few = record {
  some = omega (arith, some, length-replicate {A = List Known} n []);
  count = omega (arith, few, length-replicate {A = List Known} n []);
  buckets = λ number within. subst (IsBucket (length (replicate n [])) number) (sym (read_empty n number)) (empty_bucket (length (replicate n [])) number);
}

-- ---- the world

module _ (film : FilmData) (kind : Kind) (start : PathData) (tasks : List PathData) (limits : Limits)
    (is : IsFilm film) (complete : IsComplete film start) (starts : AreStarts (search_of film kind start tasks limits)) (fit : AreLimits limits) where
  abbrev world : WorldData
  world = opened film kind start tasks limits

  abbrev idle : WorkerData
  idle = record { told = start.paid; best = start; probe = None; note = None }

  is_idle : IsWorker world.search start.paid idle
  is_idle = record { complete = complete; no_better = omega arith; no_less = omega arith; no_more = omega arith }

  least : HasLeast world
  least = record {
    who = 0;
    one = omega (arith, fit.some_workers, length-replicate {A = WorkerData} limits.workers idle);
    best = ap (λ (w : WorkerData). w.best.paid) (get_or-replicate limits.workers 0 idle no_worker (omega (arith, fit.some_workers)));
  }

  stripes : (number : ℕ) → number < 16 → IsStripeOf world number (stripe_at world number)
  stripes number within =
      subst (IsStripeOf world number) (sym (get_or-replicate 16 number (replicate (limits.entries / 64) []) [] within)) (record {
        stripe = empty_stripe (limits.entries / 64) (omega (arith, fit.some_entries)) (omega (arith, fit.few_entries));
        count = length-replicate {A = List Known} (limits.entries / 64) [];
        own = λ bucket lt. subst (λ (b : List Known). All (λ entry. stripe_of entry.set ≡ number) b) (sym (read_empty (limits.entries / 64) bucket))
            (All-nil (λ (entry : Known). stripe_of entry.set ≡ number));
        entries = λ bucket lt. subst (λ (b : List Known). All (Knows world.lines) b) (sym (read_empty (limits.entries / 64) bucket)) (All-nil (Knows world.lines));
      })

  read_part : (part : ℕ) → part_at world part ≡ no_part
  read_part part = elim (cases_lt part (suc (length tasks))) [
    | inl within ↦ get_or-replicate (suc (length tasks)) part no_part no_part within
    | inr past ↦ get_or_past (replicate (suc (length tasks)) no_part) part no_part (omega (arith, past, length-replicate {A = PartData} (suc (length tasks)) no_part))
  ]

  no_last : (part : ℕ) (path : PathData) → (part_at world part).last ≡ Some path → ⊥
  no_last part path at = (let none : (part_at world part).last ≡ None = ap (λ (p : PartData). p.last) (read_part part) in cc)

  claims : (part : ℕ) → IsClaimed world part
  claims part = record {
    claimer = λ below. absurd (omega (arith, below));
    free = λ above. (
      ap (λ (p : PartData). p.claimer) (read_part part),
      ap (λ (p : PartData). p.last) (read_part part),
      ap (λ (p : PartData). p.number) (read_part part),
    );
    last = λ path at. absurd (no_last part path at);
    own = λ path at. absurd (no_last part path at);
  }

  counts : AreCounted (search_rules world.search) world.search.start (depth_of world.search) world.search.tasks world.lines
      (λ part. (part_at world part).last) (λ part. (part_at world part).number)
  counts =
      subst (λ (number : ℕ → ℕ). AreCounted (search_rules world.search) world.search.start (depth_of world.search) world.search.tasks world.lines
      (λ part. (part_at world part).last) number) (λ i part. (sym (read_part part) i).number)
      (counted_none (search_rules world.search) world.search.start (depth_of world.search) world.search.tasks (λ part. (part_at world part).last))

  pub sound_opened : IsSound world
  sound_opened = record {
    film = is;
    tasks = starts;
    workers = All-replicate (IsWorker world.search start.paid) limits.workers idle is_idle;
    least = least;
    few = omega arith;
    lines = All-nil (λ (line : Line). LiesIn film line.set × IsJustified (search_rules world.search) [] line);
    stripe_count = length-replicate {A = List (List Known)} 16 (replicate (limits.entries / 64) []);
    stripes = stripes;
    part_count = length-replicate (suc (length tasks)) no_part;
    next = omega arith;
    parts = λ part within. claims part;
    counts = counts;
  }
