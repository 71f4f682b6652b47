-- Worked rows: a small search, event by event. Three scenes of two actors each, one day each: the rising order costs 13, and the
-- static bound of all scenes is 12.
use Rattle.std.proofs.Common.{◌≡◌, ◌≢◌, ℕ, ◌<◌, true, Some, None, List, [], ◌∷◌, ◌++◌, length, slice_set, inl, refl, arith}
use Rattle.std.proofs.lemmas.List.Elements.{All-cons, All-nil}
use Rattle.std.proofs.lemmas.List.Kept.{AllPairs-cons}
use Rattle.strip_mask.specs.Set.{LiesBelow, has, union, meet, minus, with, without, members, numbers_below, sum_over, full}
use Rattle.strip_mask.proofs.Below.{lies_by_minus}
use Rattle.strip_model.specs.declared.kind.Kind.TheVariants.{Plain}
use Rattle.strip_model.specs.Film.{FilmData}
use Rattle.strip_model.specs.Pairs.{IsChain, IsKnownPair}
use Rattle.strip_model.proofs.Lists.{contains_none}
use Rattle.strip_film.specs.declared.shared.Known.{Known}
use Rattle.strip_film.specs.declared.shared.Listed.TheVariants.{Line as NewLine, Spent}
use Rattle.strip_film.specs.declared.shared.Noted.TheVariants.{Fresh}
use Rattle.strip_film.specs.declared.shared.Probe.TheVariants.{Hit, Miss}
use Rattle.strip_film.specs.Film.{IsFilm}
use Rattle.strip_film.specs.Path.{PathData, IsComplete, IsPath}
use Rattle.strip_lines.specs.Parts.{lies_in}
use Rattle.strip_table.specs.Home.{hash, bucket_of, stripe_of}
use Rattle.strip_world.specs.declared.event.Event.TheVariants.{Claim, Look}
use Rattle.strip_world.specs.declared.event.Reply.TheVariants.{Least, Task}
use Rattle.strip_hand.specs.declared.limits.Limits.{Limits}
use Rattle.strip_hand.specs.Search.{AreStarts, depth_of}
use Rattle.strip_world.specs.World.{WorldData, part_at, worker_at}
use Rattle.strip_hand.specs.Hand.{Knows, LetsThrough}
use Rattle.strip_world.specs.Allowed.{IsAllowed, WorkerMayEnlist, WorkerMayRaise}
use Rattle.strip_world.specs.Opened.{opened}
use Rattle.strip_world.specs.Steps.{IsNoted, Runs, claim_reply, claimed, enlist_reply, enlisted, found, looked, offered, probed, raised_in}
use Rattle.strip_world.specs.Sound.{IsSound}
use Rattle.strip_world.proofs.Opened.{sound_opened}

abbrev triangle : FilmData
triangle = record { casts = 3 ∷ 6 ∷ 5 ∷ []; days = 1 ∷ 1 ∷ 1 ∷ []; rates = 1 ∷ 2 ∷ 3 ∷ []; holds = 1 ∷ 2 ∷ 3 ∷ []; pairs = [] }

abbrev path : List ℕ → ℕ → ℕ → PathData
path scenes rest paid = record { scenes = scenes; rest = rest; paid = paid }

abbrev one : PathData
one = path (0 ∷ 1 ∷ []) 4 9

abbrev two : PathData
two = path (0 ∷ 2 ∷ []) 2 9

abbrev three : PathData
three = path (1 ∷ 2 ∷ []) 1 11

-- what remains after the three tasks are the scenes 2, 1 and 0
abbrev tasks : List PathData
tasks = one ∷ two ∷ three ∷ []

abbrev rising : PathData
rising = path (0 ∷ 1 ∷ 2 ∷ []) 0 13

-- two workers, one line at most, and one bucket a stripe
abbrev limits : Limits
limits = record { workers = 2; nodes = 1; entries = 64 }

abbrev start : WorldData
start = opened triangle Plain rising tasks limits

opens : (start.least ≡ 13) × (length start.stripes ≡ 16) × (length start.parts ≡ 4) × (length start.workers ≡ 2) × (start.buckets ≡ 1)
opens = (refl, refl, refl, refl, refl)

-- ---- the least cost

-- a path of 12 is the least cost and the worker's best; one of 14 that follows changes neither, and is told 12
abbrev cheaper : WorldData
cheaper = offered start 1 (path [] 0 12)

offers : (cheaper.least ≡ 12) × ((worker_at cheaper 1).best.paid ≡ 12) × ((worker_at cheaper 1).told ≡ 12) × ((worker_at cheaper 0).told ≡ 13)
offers = (refl, refl, refl, refl)

abbrev dearer : WorldData
dearer = offered cheaper 0 (path [] 0 14)

keeps : (dearer.least ≡ 12) × ((worker_at dearer 0).best ≡ rising) × ((worker_at dearer 0).told ≡ 12)
keeps = (refl, refl, refl)

looks : (worker_at (looked cheaper 0) 0).told ≡ 12
looks = refl

-- ---- parts

-- the front is claimed first, and after four claims nothing is left
abbrev first : WorldData
first = claimed start 1

claims : (first.next ≡ 1) × ((part_at first 0).claimer ≡ Some 1) × ((part_at first 1).claimer ≡ None) × (claim_reply start ≡ Some 0) × (claim_reply first ≡ Some 1)
claims = (refl, refl, refl, refl, refl)

abbrev last : WorldData
last = claimed (claimed (claimed first 0) 1) 0

none_left : (last.next ≡ 4) × (claim_reply last ≡ None) × (claimed last 1 ≡ last)
none_left = (refl, refl, refl)

-- ---- lines

-- the path of no scenes is enlisted in the front, as a line with its static bound; then the lines are spent
abbrev root : PathData
root = path [] 7 0

abbrev one_line : WorldData
one_line = enlisted first 0 root

enlists : (one_line.lines ≡ record { set = 7; bound = 12 } ∷ []) × ((part_at one_line 0).last ≡ Some root) × ((part_at one_line 0).number ≡ 1)
unfolding has members numbers_below sum_over
enlists = (refl, refl, refl)

replies : (enlist_reply first ≡ NewLine 0) × (enlist_reply one_line ≡ Spent 1) × (enlisted one_line 0 (path (0 ∷ []) 6 3) ≡ one_line)
unfolding has members numbers_below sum_over
replies = (refl, refl, refl)

raises : ((raised_in one_line 0 13).lines ≡ record { set = 7; bound = 13 } ∷ []) × ((raised_in one_line 0 11).lines ≡ record { set = 7; bound = 12 } ∷ [])
unfolding has members numbers_below sum_over
raises = (refl, refl)

-- the path of no scenes lies in the front, and a complete one in its task alone
lies : (lies_in (depth_of start.search) tasks 0 root ≡ true) × (lies_in (depth_of start.search) tasks 1 rising ≡ true)
lies = (refl, refl)

-- ---- the table

-- set 7 belongs to stripe 5
abbrev entry : Known
entry = record { line = 0; set = 7; bound = 12 }

abbrev noted : WorldData
noted = record one_line {
  stripes = slice_set one_line.stripes 5 ((entry ∷ []) ∷ []);
  workers = slice_set one_line.workers 1 (record (worker_at one_line 1) { note = Some entry });
}

notes : IsNoted one_line 1 entry noted Fresh
unfolding hash stripe_of bucket_of has members numbers_below sum_over
notes = record { puts = record { none = refl; room = omega arith; added = refl }; table = refl; others = refl }

finds : (found noted 7 ≡ Hit entry) × (found noted 6 ≡ Miss) × (found one_line 7 ≡ Miss)
unfolding hash stripe_of bucket_of has members numbers_below sum_over
finds = (refl, refl, refl)

probes : (worker_at (probed noted 1 7) 1).probe ≡ Some (record { set = 7; answer = Hit entry })
unfolding hash stripe_of bucket_of has members numbers_below sum_over
probes = refl

-- ---- what may come

-- the first path may be enlisted in the front by the worker who claimed it
may_enlist : WorkerMayEnlist first 1 0 root
unfolding has union meet minus with without full members numbers_below sum_over
may_enlist = record {
  known = omega arith;
  claimed = refl;
  is_open = (record { remained = tt; left = refl; steps = refl }, tt);
  lies = refl;
  later = tt;
  some = omega arith;
  below = omega arith;
  through = λ task. absurd (task refl);
}

may_note : Knows one_line.lines entry
unfolding has members numbers_below sum_over
may_note = record { there = omega arith; set = refl; as_great = omega arith }

-- a bound of 12 lets through what was paid 0 where 13 was told, and not where 12 was
lets : (LetsThrough (Some (record { set = 7; answer = Hit entry })) root 13) × ¬ LetsThrough (Some (record { set = 7; answer = Hit entry })) root 12
lets = ((refl, omega arith), λ through. omega (arith, through.1))

may_raise : WorkerMayRaise one_line 0 12
unfolding has members numbers_below sum_over
may_raise = record { known = omega arith; justified = inl (omega arith) }

-- ---- a run

runs : Runs start (Claim 1 ∷ Look 0 ∷ []) 2 (looked first 0)
runs = (allowed_claim, (first, Task (Some 0), (refl, refl), (allowed_look, (looked first 0, Least 13, (refl, refl), (refl, tt)))))
  where
    allowed_claim : IsAllowed start (Claim 1)
    allowed_claim = record { worker = omega arith; fitting = tt }

    allowed_look : IsAllowed first (Look 0)
    allowed_look = record { worker = omega arith; fitting = tt }

-- it stops at an event of a worker that the world hasn't
stops : Runs start (Claim 1 ∷ Look 2 ∷ []) 1 first
stops = (record { worker = omega arith; fitting = tt }, (first, Task (Some 0), (refl, refl), (refl, λ allowed. omega (arith, allowed.worker))))

-- ---- the start

-- the tasks are paths of the film, from which different scenes remain
starts : AreStarts start.search
unfolding has union meet minus with without full members numbers_below sum_over
starts = record {
  paths = All-cons (IsPath triangle) one (two ∷ three ∷ []) (record { remained = (refl, (refl, tt)); left = refl; steps = refl })
      (All-cons (IsPath triangle) two (three ∷ []) (record { remained = (refl, (refl, tt)); left = refl; steps = refl })
      (All-cons (IsPath triangle) three [] (record { remained = (refl, (refl, tt)); left = refl; steps = refl }) (All-nil (IsPath triangle))));
  long = All-cons long_path one (two ∷ three ∷ []) refl
      (All-cons long_path two (three ∷ []) refl (All-cons long_path three [] refl (All-nil long_path)));
  apart = AllPairs-cons apart_paths one (two ∷ three ∷ [])
      (All-cons (apart_paths one) two (three ∷ []) (λ same. omega (arith, same))
      (All-cons (apart_paths one) three [] (λ same. omega (arith, same)) (All-nil (apart_paths one))))
      (AllPairs-cons apart_paths two (three ∷ []) (All-cons (apart_paths two) three [] (λ same. omega (arith, same)) (All-nil (apart_paths two)))
      (AllPairs-cons apart_paths three [] (All-nil (apart_paths three)) (λ i j d rising within. absurd (omega (arith, rising, within)))));
  few = omega arith;
}
  where
    long_path : PathData → Type 0
    long_path task = length task.scenes ≡ 2

    apart_paths : PathData → PathData → Type 0
    apart_paths a b = a.rest ≢ b.rest

no_chain : (scene : ℕ) (between : List ℕ) → ¬ IsChain [] (scene ∷ between ++ scene ∷ [])
no_chain scene [] chain = contains_none (record { first = scene; then = scene }) chain.0
no_chain scene (next ∷ between) chain = contains_none (record { first = scene; then = next }) chain.0

is_film : IsFilm triangle
unfolding minus full has with union
is_film = record {
  scene_count = (omega arith, omega arith);
  day_count = refl;
  actor_count = omega arith;
  hold_count = refl;
  some_days = All-cons (λ days. 0 < days) 1 (1 ∷ 1 ∷ []) (omega arith)
      (All-cons (λ days. 0 < days) 1 (1 ∷ []) (omega arith) (All-cons (λ days. 0 < days) 1 [] (omega arith) (All-nil (λ (days : ℕ). 0 < days))));
  day_sum = omega arith;
  rate_sum = omega arith;
  hold_sum = omega arith;
  casts = All-cons (LiesBelow 3) 3 (6 ∷ 5 ∷ []) ((lies_by_minus 3 3).0 refl)
      (All-cons (LiesBelow 3) 6 (5 ∷ []) ((lies_by_minus 3 6).0 refl) (All-cons (LiesBelow 3) 5 [] ((lies_by_minus 3 5).0 refl) (All-nil (LiesBelow 3))));
  pairs = record {
    known = All-nil (IsKnownPair 3);
    once = λ i j d rising within. absurd (omega (arith, rising, within));
    no_cycle = λ cycle. no_chain cycle.scene cycle.between cycle.returns;
  };
}

complete : IsComplete triangle rising
unfolding has union meet minus with without full members numbers_below sum_over
complete = (record { remained = (refl, (refl, (refl, tt))); left = refl; steps = refl }, refl)

-- so the search opens with a sound world
sound : IsSound start
sound = sound_opened triangle Plain rising tasks limits is_film complete starts (record {
  some_workers = omega arith;
  few_workers = omega arith;
  some_lines = omega arith;
  few_lines = omega arith;
  some_entries = omega arith;
  few_entries = omega arith;
})
