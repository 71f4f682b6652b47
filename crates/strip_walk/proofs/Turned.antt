-- One turn of a walk: a scene is shot, what then remains is walked, and the scene is taken back.
use Rattle.std.proofs.Common.{◌≡◌, ℕ, ◌+◌, ◌^◌, ◌<◌, ◌≤◌, true, false, Result, Ok, Err, IfOk, length, sym, ap, ◌∙◌, subst, arith}
use Rattle.std.specs.Result.{IsErr}
use Rattle.strip_io.specs.declared.files.Memory.{Memory}
use Rattle.strip_mask.specs.Set.{IsSet, has, without}
use Rattle.strip_mask.proofs.Below.{LiesBelow-without}
use Rattle.strip_mask.proofs.ByMembers.{has_from_without}
use Rattle.strip_model.specs.Film.{FilmData}
use Rattle.strip_film.specs.Film.{IsFilm, LiesIn}
use Rattle.strip_film.specs.Path.{IsPath, PathData, extended}
use Rattle.strip_film.specs.Ranks.{IsSooner}
use Rattle.strip_film.specs.Rules.{rank}
use Rattle.strip_film.specs.Shoot.{ready, step_cost}
use Rattle.strip_film.specs.Shown.{CursorData}
use Rattle.strip_film.specs.Turns.{GoBy, IsSoonest, TurnsData}
use Rattle.strip_film.proofs.Costs.{step_limit}
use Rattle.strip_film.proofs.Lists.{ready_there}
use Rattle.strip_film.proofs.Paths.{rest_lies, rest_set}
use Rattle.strip_film.proofs.Small.{finish_small}
use Rattle.strip_rule.proofs.Open.{open_is}
use Rattle.strip_hand.specs.Search.{SearchData, search_rules}
use Rattle.strip_hand.specs.Hand.{HandData}
use Rattle.strip_walk.specs.declared.found.Found.{Found}
use Rattle.strip_walk.specs.Found.{IsFound}
use Rattle.strip_walk.specs.Walked.{Explores, Walks}
use Rattle.strip_walk.specs.Begun.{IsFirst}
use Rattle.strip_walk.proofs.Settled.{IsNext}
use Rattle.strip_walk.proofs.Stayed.{rose_around, walks_child, walks_trans}

-- ---- the scene

module _ (search : SearchData) (film : FilmData) (path : PathData) (s : ℕ) (film_is : search.film ≡ film) (first : IsFirst search path s) where
  pub first_ready : has (ready film path.rest) s ≡ true
  first_ready = subst (λ (f : FilmData). has (ready f path.rest) s ≡ true) film_is (open_is search.film path.rest s first).0

  -- the path that was taken is the longer one
  pub taken : (longer : PathData) → longer ≡ extended film path s → longer ≡ extended search.film path s
  taken longer is = is ∙ ap (λ (f : FilmData). extended f path s) (sym film_is)

module _ (search : SearchData) (path : PathData) (s : ℕ) (is : IsFilm search.film) (within : IsPath search.film path) (first : IsFirst search path s) where
  lies : LiesIn search.film path.rest
  lies = rest_lies search.film path within

  -- the step and what was found of the rest fit a number
  pub sum_fits : (after : HandData) (cursor_after : CursorData) (found : Found) → after.search ≡ search → IsFound after cursor_after (extended search.film path s) found
      → step_cost search.film path.rest s + found.bound < 2 ^ 64
  sum_fits after cursor_after found same finds =
      let set : IsSet path.rest = rest_set search.film path within is in
      let film_same : after.search.film ≡ search.film = ap (λ (of : SearchData). of.film) same in
      omega (
        arith,
        step_limit search.film path.rest s is set (ready_there search.film path.rest s (open_is search.film path.rest s first).0),
        finish_small after.search.film (without path.rest s) found.bound
            (subst IsFilm (sym film_same) is)
            (subst (λ (f : FilmData). LiesIn f (without path.rest s)) (sym film_same) (LiesBelow-without (length search.film.casts) path.rest s lies)) finds.finish,
      )

-- ---- the walk of the longer path

module _ (before now after : HandData) (cursor cursor_now cursor_after : CursorData) (path longer : PathData) (s : ℕ)
    (few : length now.lines ≤ now.search.nodes) (walks : Walks before cursor path now cursor_now) (longer_is : longer ≡ extended before.search.film path s) where
  pub turn_walks : Walks now cursor_now longer after cursor_after → Walks before cursor path after cursor_after
  turn_walks child = walks_trans before now after cursor cursor_now cursor_after path few walks
      (walks_child now after cursor_now cursor_after path longer s (ap (λ (p : PathData). p.scenes) longer_is) child)

  -- want of memory is handed on
  pub turn_refused : (result : Result Found Memory) (fault : Memory) → IsErr result → Explores now cursor_now longer (Err fault) after cursor_after
      → Explores before cursor path result after cursor_after
  turn_refused (Ok found) fault is child = absurd (let e : false ≡ true = is in cc)
  turn_refused (Err other) fault is (child, rose) =
      (turn_walks child, rose_around before.refusals now.refusals after.refusals after.refusals walks.refusals rose (omega arith))

-- ---- the turns

-- the soonest of those that go by their ranks is the next one
pub next_is : (search : SearchData) (path : PathData) (turns : TurnsData) (s : ℕ) → GoBy (rank (search_rules search) path.rest) turns
    → IsSoonest turns s → IsNext search path turns.left s
next_is search path turns s goes soonest = record {
  waits = soonest.waits;
  first = λ other waits apart. goes s other soonest.waits waits (soonest.first other waits apart);
}

-- those that are left go on by their ranks
pub still_ranked : (search : SearchData) (path : PathData) (turns later : TurnsData) (s : ℕ) → later.left ≡ without turns.left s → later.ranks ≡ turns.ranks
    → GoBy (rank (search_rules search) path.rest) turns → GoBy (rank (search_rules search) path.rest) later
still_ranked search path turns later s fewer_wait same goes a b here there sooner =
    goes a b (waits a here) (waits b there) (subst (λ (ranks : ℕ → ℕ). IsSooner ranks a b) same sooner)
  where
    waits : (scene : ℕ) → has later.left scene ≡ true → has turns.left scene ≡ true
    waits scene is = (has_from_without turns.left s scene (subst (λ (left : ℕ). has left scene ≡ true) fewer_wait is)).1

pub if_ok_holds : {X E : Type 0} (P : Type 0) (result : Result X E) → P → IfOk result (λ _. P)
if_ok_holds P (Ok x) holds = holds
if_ok_holds P (Err e) holds = tt
