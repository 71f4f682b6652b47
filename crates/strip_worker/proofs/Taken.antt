-- A part was claimed: what may be walked, and what a walk leaves.
use Rattle.std.proofs.Common.{◌≡◌, ℕ, suc, ◌<◌, Bool, true, Some, Result, Ok, List, length, map, slice_index_or, slice_set, false, ◌||◌, inl, refl, sym, ap, ◌∙◌, subst, arith, All}
use Rattle.std.proofs.lemmas.List.{get_or-map, get_or_default, length-map}
use Rattle.strip_film.specs.Rules.{IsOpen}
use Rattle.strip_model.specs.declared.kind.Kind.{Kind}
use Rattle.strip_model.specs.Film.{FilmData}
use Rattle.strip_io.specs.declared.files.Memory.{Memory}
use Rattle.strip_film.specs.declared.path.Path.{Path}
use Rattle.strip_film.specs.Path.{PathData}
use Rattle.strip_film.specs.Shown.{CursorData, path_data}
use Rattle.strip_lines.specs.Lines.{rules_of}
use Rattle.strip_lines.proofs.Grown.{grow_self}
use Rattle.strip_lines.specs.Parts.{no_task}
use Rattle.strip_hand.specs.Calls.{Claims}
use Rattle.strip_hand.specs.Hand.{HandData, IsHand, no_path_yet}
use Rattle.strip_hand.specs.Search.{GoesBy, SearchData, search_rules}
use Rattle.strip_front.specs.declared.front.Front.{Front}
use Rattle.strip_front.specs.Shown.{front_data}
use Rattle.strip_front.specs.Front.{FrontData, is_wanted, task_at, IsFrontOf}
use Rattle.strip_front.proofs.FrontFacts.{front_open}
use Rattle.strip_walk.specs.declared.found.Found.{Found}
use Rattle.strip_walk.specs.Found.{MayExplore}
use Rattle.strip_walk.specs.Walked.{Explores}
use Rattle.strip_worker.specs.Team.{HasClaimed, HasWorked, WalksPart, WalksTask, beginning}
use Rattle.strip_worker.proofs.Settled.{passed, settled}
use Rattle.strip_worker.proofs.Tasks.{may_walk_task}

-- a walk from where a part begins
pub explores_task : (before : HandData) (part : ℕ) (path : PathData) (result : Result Found Memory) (after : HandData)
    (start cursor : CursorData) (running : PathData) → start ≡ beginning part → running ≡ path
    → Explores before start running result after cursor → WalksTask before part path result after
explores_task before part path result after start cursor running from same explores = (
  cursor,
  subst (λ (p : PathData). Explores before (beginning part) p result after cursor) same
      (subst (λ (s : CursorData). Explores before s running result after cursor) from explores),
)

-- nothing is walked of a part
pub stands_still : (hand : HandData) (part : ℕ) → hand.records part ≡ Some no_path_yet → WalksPart hand part hand
stands_still hand part recorded = (
  no_task,
  beginning part,
  record {
    search = refl;
    ended = refl;
    told = omega arith;
    grow = grow_self hand.lines;
    refusals = omega arith;
    task = refl;
    stands = (0, recorded);
    others = λ other apart. refl;
    last = inl refl;
    full = λ so. refl;
  },
)

-- the path and the flag that stand at a place of a front
pub task_read : (front : FrontData) (seen : List Path) (task : ℕ) (path : Path) → map path_data seen ≡ front.tasks → task < length front.tasks
    → path ≡ slice_index_or seen task path → path_data path ≡ task_at front task
task_read front seen task path are within read =
    ap path_data read
    ∙ sym (get_or-map path_data seen task path no_task (omega (arith, within, ap length are, length-map seen path_data)))
    ∙ ap (λ (tasks : List PathData). slice_index_or tasks task no_task) are

pub wanted_read : (front : Front) (task : ℕ) (flag : Bool) → task < length front.wanted.items → flag ≡ slice_index_or front.wanted.items task flag
    → is_wanted (front_data front) task ≡ flag
wanted_read front task flag within read = get_or_default front.wanted.items task false flag within ∙ sym read

-- a part that was claimed, and its task
module _ (kind : Kind) (film : FilmData) (hand : HandData) (front : FrontData) (found : List ℕ) (spent : Bool) (part task : ℕ) (is : part ≡ suc task)
    (limits : IsHand hand) (taken : HasClaimed kind film hand front found spent part) where
  abbrev claims : Claims taken.0 (Some (suc task)) hand
  claims = subst (λ (p : ℕ). Claims taken.0 (Some p) hand) is taken.2

  same_search : hand.search ≡ taken.0.search
  same_search = ap (λ (h : HandData). h.search) claims.0

  pub by : GoesBy kind film hand.search
  by = subst (GoesBy kind film) (sym same_search) taken.1.search

  -- the tasks are open paths
  all_open : All (IsOpen (rules_of kind film)) front.tasks
  all_open =
      subst (λ (k : Kind). All (IsOpen (rules_of k film)) front.tasks) by.1
      (subst (λ (f : FilmData). All (IsOpen (rules_of hand.search.kind f)) front.tasks) by.0
      (front_open hand.search.kind hand.search.film front limits.film
      (subst (λ (s : SearchData). IsFrontOf (search_rules s) front) (sym same_search) taken.1.worked.front_of)))

  pub within : task < length front.tasks
  within =
      omega (
        arith,
        claims.1,
        ap (λ (search : SearchData). length search.tasks) same_search,
        ap (λ (tasks : List PathData). length tasks) taken.1.worked.tasks,
      )

  pub may_walk : MayExplore hand (beginning part) (task_at front task)
  may_walk =
      subst (λ (p : ℕ). MayExplore hand (beginning p) (task_at front task)) (sym is)
      (may_walk_task kind film front task within all_open hand by
      (ap (λ (search : SearchData). search.tasks) same_search ∙ taken.1.worked.tasks) claims.3)

  pub walked_task : (answer : Found) (after : HandData) (short : Bool) → is_wanted front task ≡ true → IsHand after
      → WalksTask hand part (task_at front task) (Ok answer) after → short ≡ (spent || answer.spent)
      → HasWorked after front (slice_set found task answer.bound) short
  walked_task answer after short wanted limits_after walks =
      settled taken.0 hand after front found task spent answer taken.1.worked claims
      (subst (λ (p : ℕ). WalksTask hand p (task_at front task) (Ok answer) after) is walks) limits_after.few within wanted short

-- a part that is the front, or whose task isn't asked for
pub passed_part : (kind : Kind) (film : FilmData) (hand : HandData) (front : FrontData) (found : List ℕ) (spent : Bool) (part : ℕ) → IsHand hand
    → HasClaimed kind film hand front found spent part → ((task : ℕ) → part ≡ suc task → is_wanted front task ≡ false) → HasWorked hand front found spent
passed_part kind film hand front found spent part limits taken unwanted = passed taken.0 hand front found part spent taken.1.worked taken.2 limits.few unwanted
