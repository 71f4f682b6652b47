-- A task of the front is open, and may be walked from where its part begins.
use Rattle.std.proofs.Common.{◌≡◌, ℕ, suc, ◌<◌, true, Some, List, length, nat_eq, slice_index_or, All, sym, subst, arith}
use Rattle.std.specs.List.{starts_with}
use Rattle.strip_model.specs.declared.kind.Kind.{Kind}
use Rattle.strip_model.specs.Film.{FilmData}
use Rattle.strip_film.specs.Path.{PathData}
use Rattle.strip_film.specs.Rules.{IsOpen}
use Rattle.strip_lines.specs.Lines.{rules_of}
use Rattle.strip_lines.specs.Parts.{lies_in, no_task}
use Rattle.strip_hand.specs.Hand.{HandData, no_path_yet}
use Rattle.strip_hand.specs.Search.{GoesBy, depth_of, search_rules}
use Rattle.strip_front.specs.Front.{FrontData, task_at}
use Rattle.strip_walk.specs.Found.{MayExplore}
use Rattle.strip_walk.proofs.Lists.{starts_itself}
use Rattle.strip_worker.specs.Team.{beginning}

module _ (kind : Kind) (film : FilmData) (front : FrontData) (task : ℕ) (within : task < length front.tasks)
    (all : All (IsOpen (rules_of kind film)) front.tasks) where
  pub open_task : IsOpen (rules_of kind film) (task_at front task)
  open_task = all task no_task within

  module _ (hand : HandData) (goes : GoesBy kind film hand.search) (tasks_same : hand.search.tasks ≡ front.tasks) where
    open_by : IsOpen (search_rules hand.search) (task_at front task)
    open_by =
        subst (λ (k : Kind). IsOpen (rules_of k hand.search.film) (task_at front task)) (sym goes.1)
        (subst (λ (f : FilmData). IsOpen (rules_of kind f) (task_at front task)) (sym goes.0) open_task)

    lies_task : lies_in (depth_of hand.search) hand.search.tasks (suc task) (task_at front task) ≡ true
    lies_task =
        subst (λ (tasks : List PathData). starts_with nat_eq (task_at front task).scenes (slice_index_or tasks task no_task).scenes ≡ true)
        (sym tasks_same) (starts_itself (task_at front task).scenes)

    -- where the part has a record with nothing in it yet
    pub may_walk_task : hand.records (suc task) ≡ Some no_path_yet → MayExplore hand (beginning (suc task)) (task_at front task)
    may_walk_task recorded = record {
      stands = (0, recorded);
      task = λ zero_is. absurd (omega (arith, zero_is));
      is_open = open_by;
      lies = lies_task;
      later = tt;
    }
