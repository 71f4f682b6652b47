-- A search over a hand stays on its way.
use Rattle.std.proofs.Common.{◌≡◌, ℕ, suc, ◌<◌, ◌≤◌, Some, List, length, slice_set, sym, ap, ◌∙◌, subst, arith}
use Rattle.std.proofs.lemmas.List.{length-set}
use Rattle.strip_model.specs.declared.kind.Kind.{Kind}
use Rattle.strip_model.specs.Film.{FilmData}
use Rattle.strip_film.specs.Film.{IsFilm}
use Rattle.strip_film.specs.Path.{PathData}
use Rattle.strip_film.specs.Rules.{IsOpen}
use Rattle.strip_film.specs.Shown.{CursorData}
use Rattle.strip_lines.specs.Lines.{GrowTo, known, rules_of}
use Rattle.strip_hand.specs.Calls.{Claims}
use Rattle.strip_hand.specs.Hand.{HandData}
use Rattle.strip_hand.specs.Search.{SearchData, search_rules}
use Rattle.strip_front.specs.Front.{FrontData, task_at}
use Rattle.strip_front.proofs.FrontFacts.{front_open}
use Rattle.strip_front.proofs.Grown.{grow_same}
use Rattle.strip_front.proofs.Small.{filled_grows, found_grows}
use Rattle.strip_walk.specs.declared.found.Found.{Found}
use Rattle.strip_walk.specs.Found.{IsFound, MayExplore}
use Rattle.strip_walk.specs.Walked.{Walks}
use Rattle.strip_walk.proofs.Bounds.{bound_known}
use Rattle.strip_worker.specs.Team.{beginning}
use Rattle.strip_worker.proofs.Settled.{found_with}
use Rattle.strip_worker.proofs.Tasks.{may_walk_task, open_task}
use Rattle.test_search.specs.Way.{IsOnItsWay}

-- ---- the hand goes on

module _ (kind : Kind) (film : FilmData) (before after : HandData) (front : FrontData) (found : List ℕ) (grow : GrowTo before.lines after.lines)
    (was : IsOnItsWay kind film before front found) where
  -- the later hand, by the search of the earlier one
  later_way : IsOnItsWay kind film (record after { search = before.search }) front found
  later_way = record {
    search = was.search;
    tasks = was.tasks;
    front_of = was.front_of;
    filled = filled_grows before after front grow was.filled;
    long = was.long;
    known = found_grows before after front grow found was.known;
  }

  pub goes_on : after.search ≡ before.search → IsOnItsWay kind film after front found
  goes_on same = subst (λ (search : SearchData). IsOnItsWay kind film (record after { search = search }) front found) (sym same) later_way

-- ---- a part is claimed

module _ (kind : Kind) (film : FilmData) (before after : HandData) (front : FrontData) (found : List ℕ) (task : ℕ)
    (was : IsOnItsWay kind film before front found) (claims : Claims before (Some (suc task)) after) where
  pub way_claimed : IsOnItsWay kind film after front found
  way_claimed =
      goes_on kind film before after front found (grow_same before.lines after.lines (ap (λ (h : HandData). h.lines) claims.0)) was
      (ap (λ (h : HandData). h.search) claims.0)

  -- the part's task
  pub within : task < length front.tasks
  within =
      let count = ap (λ (h : HandData). length h.search.tasks) claims.0 in
      omega (arith, claims.1, count, ap (λ (tasks : List PathData). length tasks) way_claimed.tasks)

  pub task_open : IsFilm film → IsOpen (rules_of kind film) (task_at front task)
  task_open is = open_task kind film front task within (front_open kind film front is was.front_of)

  pub may_walk : IsFilm film → MayExplore after (beginning (suc task)) (task_at front task)
  may_walk is =
      may_walk_task kind film front task within (front_open kind film front is was.front_of) after way_claimed.search
      way_claimed.tasks claims.3

-- ---- a task is walked

module _ (kind : Kind) (film : FilmData) (before after : HandData) (front : FrontData) (found : List ℕ) (task : ℕ) (cursor cursor_after : CursorData)
    (path : PathData) (answer : Found) (was : IsOnItsWay kind film before front found) (within : task < length front.tasks) (is : path ≡ task_at front task)
    (walks : Walks before cursor path after cursor_after) (finds : IsFound after cursor_after path answer) where
  then_way : IsOnItsWay kind film after front found
  then_way = goes_on kind film before after front found walks.grow was walks.search

  own_known : answer.bound ≤ known (search_rules after.search) after.lines (task_at front task).rest
  own_known =
      subst (λ (p : PathData). answer.bound ≤ known (search_rules after.search) after.lines p.rest) is
      (bound_known (search_rules after.search) after.lines path answer.line answer.bound (λ n named. (finds.line n named).0) finds.none)

  pub way_walked : IsOnItsWay kind film after front (slice_set found task answer.bound)
  way_walked = record {
    search = then_way.search;
    tasks = then_way.tasks;
    front_of = then_way.front_of;
    filled = then_way.filled;
    long = length-set found task answer.bound ∙ then_way.long;
    known = found_with after front found task answer.bound (omega (arith, within, was.long)) own_known then_way.known;
  }
