-- A sound world stays sound where a worker looks, probes or offers a path.
use Rattle.std.proofs.Common.{◌≡◌, ℕ, ◌<◌, ◌≤◌, min, true, cond, ltb, Some, length, inl, inr, refl, sym, ap, ◌∙◌, arith}
use Rattle.std.proofs.lemmas.Bool.{cases_eq, cases_lt, cond-true, cond-false, cond_both, lt-ltb, le-ltb}
use Rattle.std.proofs.lemmas.List.{length-set, get_or-set_same, get_or-set_other}
use Rattle.std.proofs.lemmas.List.Elements.{All-set, All-weaker}
use Rattle.strip_film.specs.Path.{PathData, IsComplete}
use Rattle.strip_lines.proofs.Grown.{grow_self}
use Rattle.strip_hand.specs.Search.{SearchData}
use Rattle.strip_world.specs.World.{WorkerData, WorldData, no_worker, worker_at, stripe_at}
use Rattle.strip_world.specs.Sound.{HasLeast, IsSound, IsWorker}
use Rattle.strip_world.specs.Steps.{looked, offered, probed, with_worker, found}
use Rattle.strip_world.proofs.Stays.{claim_stays, stripe_grows}

-- what is said of a worker stays where the least cost falls
worker_stays : (search : SearchData) (least lower : ℕ) (worker : WorkerData) → lower ≤ least → IsWorker search least worker → IsWorker search lower worker
worker_stays search least lower worker falls is = record {
  complete = is.complete;
  no_better = omega (arith, falls, is.no_better);
  no_less = omega (arith, falls, is.no_less);
  no_more = is.no_more;
}

module _ (world : WorldData) (who : ℕ) (worker : WorkerData) (lower : ℕ) (lt : who < length world.workers) where
  -- the world with this least cost and this worker
  abbrev pub changed : WorldData
  changed = with_worker (record world { least = lower }) who worker

  pub sound_changed : IsSound world → lower ≤ world.least → IsWorker world.search lower worker → HasLeast changed → IsSound changed
  sound_changed sound falls new least = record {
    film = sound.film;
    tasks = sound.tasks;
    workers = All-set (IsWorker world.search lower) world.workers who worker new
        (All-weaker (IsWorker world.search world.least) (IsWorker world.search lower) (λ w. worker_stays world.search world.least lower w falls)
        world.workers sound.workers);
    least = least;
    few = sound.few;
    lines = sound.lines;
    stripe_count = sound.stripe_count;
    stripes = λ number within. stripe_grows world changed number (stripe_at world number) refl (grow_self world.lines) (sound.stripes number within);
    part_count = sound.part_count;
    next = sound.next;
    parts = λ part within. claim_stays world changed part refl (omega (arith, length-set world.workers who worker))
        (λ below. below) (λ above. above) refl (sound.parts part within);
    counts = sound.counts;
  }

  -- who had the least has it still where the worker's best path, if it was that, stays
  pub least_stays : (least : HasLeast world) → lower ≡ world.least → (least.who ≡ who → worker.best ≡ (worker_at world who).best) → HasLeast changed
  least_stays least same best = record {
    who = least.who;
    one = omega (arith, least.one, length-set world.workers who worker);
    best = elim (cases_eq least.who who) [
      | inl is ↦ (let here : worker_at changed least.who ≡ worker = ap (λ (w : ℕ). worker_at changed w) is ∙ get_or-set_same world.workers who worker no_worker lt in
          let was : (worker_at world who).best.paid ≡ world.least = ap (λ (w : ℕ). (worker_at world w).best.paid) (sym is) ∙ least.best in
          ap (λ (w : WorkerData). w.best.paid) here ∙ ap (λ (p : PathData). p.paid) (best is) ∙ was ∙ sym same)
      | inr apart ↦ ap (λ (w : WorkerData). w.best.paid) (get_or-set_other world.workers who least.who worker no_worker apart) ∙ least.best ∙ sym same
    ];
  }

  -- the worker has the least where its best path costs as much
  pub least_here : worker.best.paid ≡ lower → HasLeast changed
  least_here same = record {
    who = who;
    one = omega (arith, lt, length-set world.workers who worker);
    best = ap (λ (w : WorkerData). w.best.paid) (get_or-set_same world.workers who worker no_worker lt) ∙ same;
  }

module _ (world : WorldData) (who : ℕ) (lt : who < length world.workers) (sound : IsSound world) where
  pub is_worker : IsWorker world.search world.least (worker_at world who)
  is_worker = sound.workers who no_worker lt

  pub sound_looked : IsSound (looked world who)
  sound_looked =
      sound_changed world who (record (worker_at world who) { told = world.least }) world.least lt sound (omega arith) (record {
        complete = is_worker.complete;
        no_better = is_worker.no_better;
        no_less = omega arith;
        no_more = omega (arith, is_worker.no_less, is_worker.no_more);
      })
      (least_stays world who (record (worker_at world who) { told = world.least }) world.least lt sound.least refl (λ is. refl))

  pub sound_probed : (set : ℕ) → IsSound (probed world who set)
  sound_probed set =
      sound_changed world who worker world.least lt sound (omega arith) (record {
        complete = is_worker.complete;
        no_better = is_worker.no_better;
        no_less = is_worker.no_less;
        no_more = is_worker.no_more;
      })
      (least_stays world who worker world.least lt sound.least refl (λ is. refl))
    where
      worker : WorkerData
      worker = record (worker_at world who) { probe = Some (record { set = set; answer = found world set }) }

  module _ (path : PathData) (complete : IsComplete world.search.film path) where
    abbrev offering : WorkerData
    offering = record (worker_at world who) {
      told = min world.least path.paid;
      best = cond (ltb path.paid (worker_at world who).best.paid) path (worker_at world who).best;
    }

    has_least : HasLeast (changed world who offering (min world.least path.paid) lt)
    has_least = elim (cases_lt path.paid world.least) [
      | inl less ↦ (
          let is : ltb path.paid (worker_at world who).best.paid ≡ true
          = lt-ltb path.paid (worker_at world who).best.paid (omega (arith, less, is_worker.no_better)) in
          let mine : (cond (ltb path.paid (worker_at world who).best.paid) path (worker_at world who).best).paid ≡ path.paid
          = ap (λ (p : PathData). p.paid) (cond-true (ltb path.paid (worker_at world who).best.paid) path (worker_at world who).best is) in
          least_here world who offering (min world.least path.paid) lt (omega (arith, mine, less)))
      | inr more ↦ least_stays world who offering (min world.least path.paid) lt sound.least (omega (arith, more)) (λ is. (
          let was : (worker_at world who).best.paid ≡ world.least = ap (λ (w : ℕ). (worker_at world w).best.paid) (sym is) ∙ sound.least.best in
          cond-false (ltb path.paid (worker_at world who).best.paid) path (worker_at world who).best
          (le-ltb path.paid (worker_at world who).best.paid (omega (arith, more, was)))))
    ]

    pub sound_offered : IsSound (offered world who path)
    sound_offered =
        sound_changed world who offering (min world.least path.paid) lt sound (omega arith) (record {
          complete = cond_both (ltb path.paid (worker_at world who).best.paid) path (worker_at world who).best (IsComplete world.search.film)
              (λ is. complete) (λ is. is_worker.complete);
          no_better = cond_both (ltb path.paid (worker_at world who).best.paid) path (worker_at world who).best (λ (p : PathData). min world.least path.paid ≤ p.paid)
              (λ is. omega arith) (λ is. (let floor = is_worker.no_better in omega (arith, floor)));
          no_less = omega arith;
          no_more = omega (arith, is_worker.no_less, is_worker.no_more);
        })
        has_least
