-- Worlds of one worker: its hand has all records, and they count all lines.
use Rattle.std.proofs.Common.{◌≡◌, ℕ, suc, ◌<◌, ◌≤◌, true, ltb, Option, Some, None, List, length, replicate, inl, inr, refl, sym, ap, ◌∙◌, subst, arith}
use Rattle.std.specs.Prelude.{IsSome}
use Rattle.std.proofs.lemmas.Bool.{cases_lt, cond-true, leb-true, lt-ltb}
use Rattle.std.proofs.lemmas.List.{get_or-replicate, get_or_past, length-replicate}
use Rattle.std.specs.Option.{unwrap_or}
use Rattle.strip_model.specs.declared.kind.Kind.{Kind}
use Rattle.strip_model.specs.Film.{FilmData}
use Rattle.strip_film.specs.Path.{PathData}
use Rattle.strip_lines.proofs.Grown.{grow_self}
use Rattle.strip_lines.specs.Parts.{AreCounted}
use Rattle.strip_hand.specs.Calls.{Claims}
use Rattle.strip_hand.specs.Hand.{RecordData, no_path_yet}
use Rattle.strip_hand.specs.Search.{GoesBy, SearchData, depth_of, search_rules}
use Rattle.strip_hand.specs.declared.limits.Limits.{Limits}
use Rattle.strip_world.specs.declared.event.Reply.TheVariants.{Task}
use Rattle.strip_world.specs.Hand.{IsOwned, hand_data, own_record, record_by}
use Rattle.strip_world.specs.Opened.{opened}
use Rattle.strip_world.specs.Sound.{IsWorker}
use Rattle.strip_world.specs.Steps.{claim_reply, claimed}
use Rattle.strip_world.specs.World.{PartData, WorldData, no_part, no_worker, part_at, worker_at}
use Rattle.strip_worker.specs.Closed.{AreCountedBy, HasAll, IsSettled, record_in}
use Rattle.strip_worker.specs.Team.{HasFront}

-- ---- records

abbrev of_part : PartData → RecordData
of_part part = record { last = part.last; number = part.number }

record_of_first : (part : PartData) → part.claimer ≡ Some 0 → own_record part ≡ Some (of_part part)
record_of_first part claimed = ap (λ (claimer : Option ℕ). record_by claimer part) claimed

record_of_nobody : (part : PartData) → part.claimer ≡ None → own_record part ≡ None
record_of_nobody part free = ap (λ (claimer : Option ℕ). record_by claimer part) free

module _ (world : WorldData) (owned : IsOwned world) (one_worker : length world.workers ≡ 1) where
  -- a part below the next one has a record
  own_part : (part : ℕ) → part < world.next → (hand_data world).records part ≡ Some (of_part (part_at world part))
  own_part part below =
      let was = (owned.sound.parts part (omega (arith, below, owned.sound.next))).claimer below in
      let first : was.0 ≡ 0 = omega (arith, was.1, one_worker) in
      record_of_first (part_at world part) (was.2 ∙ ap Some first)

  -- a part, whether claimed or not, and what stands past the last one, is as its record
  as_part : (part : ℕ) → record_in (hand_data world) part ≡ of_part (part_at world part)
  as_part part = elim (cases_lt part world.next) [
    | inl below ↦ ap (λ (entry : Option RecordData). unwrap_or entry no_path_yet) (own_part part below)
    | inr above ↦ elim (cases_lt part (length world.parts)) [
      | inl within ↦ (
          let free = (owned.sound.parts part within).free above in
          ap (λ (entry : Option RecordData). unwrap_or entry no_path_yet) (record_of_nobody (part_at world part) free.0)
          ∙ (λ i. record { last = sym free.1 i; number = sym free.2 i }))
      | inr past ↦ (
          let none : part_at world part ≡ no_part = get_or_past world.parts part no_part past in
          ap (λ (p : PartData). unwrap_or (own_record p) no_path_yet) none ∙ ap of_part (sym none))
    ]
  ]

  -- its records count all lines
  pub owns_all : AreCountedBy (hand_data world) world.lines
  owns_all =
      subst (λ (records : ℕ → RecordData). AreCounted (search_rules world.search) world.search.start (depth_of world.search) world.search.tasks world.lines
      (λ part. (records part).last) (λ part. (records part).number)) (λ i part. sym (as_part part) i) owned.sound.counts

  -- where it found that no part is left, it has a record of each
  pub has_all : (hand_data world).ended ≡ true → HasAll (hand_data world)
  has_all ended part within =
      let all : length world.parts ≤ world.next = leb-true (length world.parts) world.next ended in
      subst IsSome (sym (own_part part (omega (arith, all, within, owned.sound.part_count)))) refl

  worker : IsWorker world.search world.least (worker_at world 0)
  worker = owned.sound.workers 0 no_worker owned.one

  -- the least cost is that of the worker's best path
  best_is_least : (worker_at world 0).best.paid ≡ world.least
  best_is_least =
      let first : owned.sound.least.who ≡ 0 = omega (arith, owned.sound.least.one, one_worker) in
      ap (λ (who : ℕ). (worker_at world who).best.paid) (sym first) ∙ owned.sound.least.best

  pub settled_alone : IsSettled (hand_data world) (worker_at world 0).best world.lines
  settled_alone = record {
    complete = worker.complete;
    least = omega (arith, best_is_least, worker.no_less);
    grow = grow_self world.lines;
    justified = owned.sound.lines;
    few = owned.sound.few;
    counts = owns_all;
  }

-- ---- the world that a search opens with

task_of : (one other : Option ℕ) → Task one ≡ Task other → one ≡ other
task_of one other same = cc

-- nobody has claimed a part of it
nobody_there : (film : FilmData) (kind : Kind) (start : PathData) (tasks : List PathData) (limits : Limits) (part : ℕ)
    → (hand_data (opened film kind start tasks limits)).records part ≡ None
nobody_there film kind start tasks limits part =
    let free : part_at (opened film kind start tasks limits) part ≡ no_part = elim (cases_lt part (suc (length tasks))) [
      | inl within ↦ get_or-replicate (suc (length tasks)) part no_part no_part within
      | inr past ↦ get_or_past (replicate (suc (length tasks)) no_part) part no_part (omega (arith, past, length-replicate (suc (length tasks)) no_part))
    ] in
    ap own_record free

-- a claim takes the front first
pub front_claimed : (film : FilmData) (kind : Kind) (start : PathData) (tasks : List PathData) (limits : Limits) (world after : WorldData) (reply : Option ℕ)
    → world ≡ opened film kind start tasks limits → (after ≡ claimed world 0) × (Task reply ≡ Task (claim_reply world))
    → Claims (hand_data world) reply (hand_data after) → HasFront (hand_data after)
front_claimed film kind start tasks limits world after reply is step claims =
    let count : length (replicate (suc (length tasks)) no_part) ≡ suc (length tasks) = length-replicate (suc (length tasks)) no_part in
    let first : claim_reply world ≡ Some 0
    = ap claim_reply is
    ∙ cond-true (ltb 0 (length (replicate (suc (length tasks)) no_part))) (Some 0) None
    (lt-ltb 0 (length (replicate (suc (length tasks)) no_part)) (omega (arith, count))) in
    let takes : Claims (hand_data world) (Some 0) (hand_data after)
    = subst (λ (r : Option ℕ). Claims (hand_data world) r (hand_data after)) (task_of reply (claim_reply world) step.1 ∙ first) claims in
    record {
      front = takes.3;
      others = λ part apart. takes.4 part apart ∙ ap (λ (w : WorldData). (hand_data w).records part) is ∙ nobody_there film kind start tasks limits part;
    }

-- its search is one of the film
pub search_by : (film : FilmData) (kind : Kind) (search : SearchData) (nodes start : ℕ) (tasks : List PathData)
    → search ≡ record { film = film; kind = kind; nodes = nodes; start = start; tasks = tasks } → GoesBy kind film search
search_by film kind search nodes start tasks is = (ap (λ (s : SearchData). s.film) is, ap (λ (s : SearchData). s.kind) is)
