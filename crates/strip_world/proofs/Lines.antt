-- A sound world stays sound where a path is enlisted and where a line is raised.
use Rattle.std.proofs.Common.{◌≡◌, ◌≢◌, ℕ, suc, ◌+◌, ◌<◌, ◌≤◌, true, cond, eqb, Some, None, List, [], ◌∷◌, ◌++◌}
use Rattle.std.proofs.Common.{length, slice_set, count_by, inl, inr, refl, sym, ap, ◌∙◌, subst, arith}
use Rattle.std.proofs.lemmas.Bool.{cases_eq, cond_both}
use Rattle.std.proofs.lemmas.Bool.Decides.{eqb_tells}
use Rattle.std.proofs.lemmas.List.{length-append, length-set, get_or-set_same, get_or-set_other}
use Rattle.std.proofs.lemmas.List.Sums.{sum_by-set}
use Rattle.strip_film.specs.declared.shared.Line.{Line}
use Rattle.strip_film.specs.Path.{IsPath, PathData}
use Rattle.strip_film.proofs.Paths.{rest_lies}
use Rattle.strip_lines.specs.Lines.{line_at, no_line, raised, with_raised}
use Rattle.strip_lines.proofs.Grown.{added-grows, justified-added, raised-grows, justified-raised}
use Rattle.strip_lines.specs.Paths.{is_candidate}
use Rattle.strip_lines.specs.Parts.{AreCounted, Enlists, lies_in}
use Rattle.strip_lines.proofs.Shares.{counted_then, is_candidate_from}
use Rattle.strip_hand.specs.Search.{depth_of, search_rules}
use Rattle.strip_world.specs.World.{PartData, WorldData, no_part, no_worker, part_at, stripe_at, worker_at}
use Rattle.strip_world.specs.Allowed.{WorkerMayEnlist, WorkerMayRaise}
use Rattle.strip_world.specs.Sound.{IsClaimed, IsSound}
use Rattle.strip_world.specs.Steps.{enlisted, new_line, raised_in}
use Rattle.strip_world.proofs.Stays.{claim_stays, stripe_grows}

-- ---- a path that is enlisted

module _ (world : WorldData) (who part : ℕ) (path : PathData) (lt : who < length world.workers) (sound : IsSound world) (may : WorkerMayEnlist world who part path) where
  -- it is a candidate of the start, since no worker was told more than that costs
  pub is_candidate_of_start : is_candidate (search_rules world.search) world.search.start path ≡ true
  is_candidate_of_start =
      let most : (worker_at world who).told ≤ world.search.start = (sound.workers who no_worker lt).no_more in
      is_candidate_from (search_rules world.search) world.search.start path (may.is_open, omega (arith, may.below, most))

  pub part_within : part < suc (length world.search.tasks)
  part_within = omega (arith, may.known, sound.part_count)

  abbrev mine : PartData
  mine = record (part_at world part) { last = Some path; number = (part_at world part).number + 1 }

  -- the world with the new line
  abbrev listed : WorldData
  listed = record world { lines = world.lines ++ new_line world path ∷ []; parts = slice_set world.parts part mine }

  part_here : part_at listed part ≡ mine
  part_here = get_or-set_same world.parts part mine no_part may.known

  part_there : (other : ℕ) → other ≢ part → part_at listed other ≡ part_at world other
  part_there other apart = get_or-set_other world.parts part other mine no_part apart

  last_is : (other : PathData) → (part_at listed part).last ≡ Some other → path ≡ other
  last_is other at = (let same : Some path ≡ Some other = ap (λ (p : PartData). p.last) (sym part_here) ∙ at in cc)

  claim_here : IsClaimed listed part
  claim_here = record {
    claimer = λ below. (let was = (sound.parts part may.known).claimer below in (was.0, was.1, ap (λ (p : PartData). p.claimer) part_here ∙ was.2));
    free = λ above. absurd (let none : (part_at world part).claimer ≡ None = ((sound.parts part may.known).free above).0 in
        let some : (part_at world part).claimer ≡ Some who = may.claimed in cc);
    last = λ other at.
        subst (λ (p : PathData). lies_in (depth_of world.search) world.search.tasks part p ≡ true) (last_is other at) may.lies;
    own = λ other at. subst (IsPath world.search.film) (last_is other at) may.is_open.0;
  }

  claims : (other : ℕ) → other < length world.parts → IsClaimed listed other
  claims other within = elim (cases_eq other part) [
    | inl same ↦ subst (IsClaimed listed) (sym same) claim_here
    | inr apart ↦ claim_stays world listed other refl (omega arith) (λ below. below) (λ above. above) (part_there other apart) (sound.parts other within)
  ]

  enlists : Enlists part path (λ p. (part_at world p).last) (λ p. (part_at listed p).last) (λ p. (part_at world p).number) (λ p. (part_at listed p).number)
  enlists = record {
    last_path = ap (λ (p : PartData). p.last) part_here;
    one_more = ap (λ (p : PartData). p.number) part_here;
    last_stay = λ other apart. ap (λ (p : PartData). p.last) (part_there other apart);
    number_stay = λ other apart. ap (λ (p : PartData). p.number) (part_there other apart);
  }

  counts : AreCounted (search_rules world.search) world.search.start (depth_of world.search) world.search.tasks listed.lines
      (λ p. (part_at listed p).last) (λ p. (part_at listed p).number)
  counts =
      counted_then (search_rules world.search) world.search.start (depth_of world.search) world.search.tasks sound.film part part_within
      (λ p. (part_at world p).last) (λ p. (part_at listed p).last) (λ p. (part_at world p).number) (λ p. (part_at listed p).number) path
      (may.is_open.0, may.some) may.later may.lies is_candidate_of_start enlists world.lines (new_line world path) refl sound.counts

  long : length (slice_set world.parts part mine) ≡ length world.parts
  long = length-set world.parts part mine

  sound_listed : length world.lines ≢ world.search.nodes → IsSound listed
  sound_listed room = record {
    film = sound.film;
    tasks = sound.tasks;
    workers = sound.workers;
    least = record { who = sound.least.who; one = sound.least.one; best = sound.least.best };
    few = omega (arith, room, sound.few, length-append world.lines (new_line world path ∷ []));
    lines = justified-added (search_rules world.search) world.lines (new_line world path) sound.lines
        (rest_lies world.search.film path may.is_open.0) (omega arith);
    stripe_count = sound.stripe_count;
    stripes = λ number within. stripe_grows world listed number (stripe_at world number) refl (added-grows world.lines (new_line world path))
        (sound.stripes number within);
    part_count = long ∙ sound.part_count;
    next = omega (arith, sound.next, long);
    parts = λ other within. claims other (omega (arith, within, long));
    counts = counts;
  }

  pub sound_enlisted : IsSound (enlisted world part path)
  sound_enlisted =
      cond_both (eqb (length world.lines) world.search.nodes) world listed IsSound (λ full. sound)
      (λ room. sound_listed (λ same. elim (eqb_tells (length world.lines) world.search.nodes) [
        | inl is ↦ absurd (let e : eqb (length world.lines) world.search.nodes ≡ true = is.0 in cc)
        | inr other ↦ other.1 same
      ]))

-- ---- a line that is raised

-- as many lines have each set
sets_stay : (lines : List Line) (place bound set : ℕ) → place < length lines
    → count_by (λ line. eqb line.set set) (with_raised lines place bound) ≡ count_by (λ line. eqb line.set set) lines
sets_stay lines place bound set lt =
    let both = sum_by-set (λ (line : Line). cond {A = ℕ} (eqb line.set set) 1 0) lines place (raised (line_at lines place) bound) no_line lt in
    omega (arith, both)

module _ (world : WorldData) (line bound : ℕ) (sound : IsSound world) (may : WorkerMayRaise world line bound) where
  pub sound_raised : IsSound (raised_in world line bound)
  sound_raised = record {
    film = sound.film;
    tasks = sound.tasks;
    workers = sound.workers;
    least = record { who = sound.least.who; one = sound.least.one; best = sound.least.best };
    few = omega (arith, sound.few, long);
    lines = justified-raised (search_rules world.search) world.lines line bound sound.lines may.known may.justified;
    stripe_count = sound.stripe_count;
    stripes = λ number within. stripe_grows world (raised_in world line bound) number (stripe_at world number) refl (raised-grows world.lines line bound may.known)
        (sound.stripes number within);
    part_count = sound.part_count;
    next = sound.next;
    parts = λ part within. claim_stays world (raised_in world line bound) part refl (omega arith) (λ below. below) (λ above. above) refl (sound.parts part within);
    counts = record {
      shares = sound.counts.shares;
      total = sound.counts.total ∙ sym long;
      sets = λ set. omega (arith, sets_stay world.lines line bound set may.known, sound.counts.sets set);
    };
  }
    where
      long : length (with_raised world.lines line bound) ≡ length world.lines
      long = length-set world.lines line (raised (line_at world.lines line) bound)
