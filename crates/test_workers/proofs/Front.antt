-- Paths of the front that may be enlisted, and a line that may be raised.
use Rattle.std.proofs.Common.{◌≡◌, ◌≢◌, ℕ, zero, suc, ◌+◌, ◌<◌, ◌≤◌, true, Some, List, [], ◌∷◌, length, All, inr, refl, sym, ap, ◌∙◌, subst, arith}
use Rattle.std.proofs.lemmas.Bool.{lt-ltb}
use Rattle.strip_mask.specs.Set.{has, without}
use Rattle.std.proofs.lemmas.List.{length-map, length-replicate}
use Rattle.std.specs.List.{starts_with}
use Rattle.std.specs.Prelude.{map, nat_eq, replicate, slice_index_or}
use Rattle.strip_film.specs.declared.path.Path.{Path}
use Rattle.strip_film.specs.Shown.{path_data}
use Rattle.strip_lines.specs.Parts.{lies_in, no_task}
use Rattle.strip_hand.specs.Search.{depth_of}
use Rattle.test_workers.specs.Team.{IsOfWholes}
use Rattle.strip_model.specs.declared.kind.Kind.{Kind}
use Rattle.strip_model.specs.Film.{FilmData}
use Rattle.strip_film.specs.Film.{all_scenes}
use Rattle.strip_film.specs.Finish.{AreFirsts}
use Rattle.strip_film.specs.Path.{IsPath, PathData}
use Rattle.strip_film.specs.Ranks.{IsEarlier}
use Rattle.strip_film.specs.Rules.{IsOpen, Rules}
use Rattle.strip_film.specs.Shoot.{step_cost}
use Rattle.strip_bound.specs.Bounds.{bound}
use Rattle.strip_rule.specs.Rule.{open_firsts}
use Rattle.strip_lines.specs.Lines.{IsJustified, known, line_at, rules_of}
use Rattle.strip_lines.proofs.Grown.{known-static}
use Rattle.strip_film.specs.declared.shared.Line.{Line as LineOf}
use Rattle.strip_hand.specs.Hand.{no_path_yet}
use Rattle.strip_hand.specs.Search.{AreStarts, GoesBy, SearchData, search_rules}
use Rattle.strip_book.specs.View.{ViewData, record_at}
use Rattle.strip_book.specs.Rule.{first_view}
use Rattle.strip_book.specs.Pass.{MayEnlistNext, MayRaiseKnown}

rules_are : (kind : Kind) (film : FilmData) (search : SearchData) → GoesBy kind film search → rules_of kind film ≡ search_rules search
rules_are kind film search by = λ i. rules_of (sym by.1 i) (sym by.0 i)

-- a line of all scenes, where each first step reaches the bound with that of what remains
pub whole_justified : (kind : Kind) (film : FilmData) (search : SearchData) (lines : List LineOf) → GoesBy kind film search
    → (line number : ℕ) → (line_at lines line).set ≡ all_scenes film → all_scenes film ≢ 0
    → ((scene : ℕ) → has (open_firsts film (all_scenes film)) scene ≡ true
    → number ≤ step_cost film (all_scenes film) scene + bound kind film (without (all_scenes film) scene))
    → IsJustified (search_rules search) lines (record { set = (line_at lines line).set; bound = number })
whole_justified kind film search lines by line number made some_ each =
    let reach : (scene : ℕ) → has (open_firsts film (all_scenes film)) scene ≡ true
    → number ≤ step_cost film (all_scenes film) scene + known (rules_of kind film) lines (without (all_scenes film) scene)
    = λ scene first. (
    let static : bound kind film (without (all_scenes film) scene) ≤ known (rules_of kind film) lines (without (all_scenes film) scene)
    = known-static (rules_of kind film) lines (without (all_scenes film) scene) in
    omega (arith, each scene first, static)) in
    subst (λ (r : Rules). IsJustified r lines (record { set = (line_at lines line).set; bound = number })) (rules_are kind film search by)
    (subst (λ (q : ℕ). IsJustified (rules_of kind film) lines (record { set = q; bound = number })) (sym made) (inr (some_, reach)))

module _ (kind : Kind) (film : FilmData) (view : ViewData) (by : GoesBy kind film view.search) where
  same_rules : rules_of kind film ≡ search_rules view.search
  same_rules = rules_are kind film view.search by

  module _ (path : PathData) (number : ℕ) (start : view.search.start ≡ 14) (is : IsPath film path) (some_ : path.rest ≢ 0) (static : number ≡ bound kind film path.rest)
      (below : path.paid + number < 14) where
    static_there : number ≡ (search_rules view.search).bound path.rest
    static_there = static ∙ ap (λ (r : Rules). r.bound path.rest) same_rules

    -- the path without a scene
    pub may_enlist_whole : record_at 0 view.entries ≡ Some no_path_yet → path.scenes ≡ [] → 2 ≤ depth_of view.search → MayEnlistNext view 0 path number
    may_enlist_whole stands scenes deep = record {
      next = record {
        entry = no_path_yet;
        stands = stands;
        is_open = subst (λ (r : Rules). IsOpen r path) same_rules (is, subst (AreFirsts (open_firsts film) (all_scenes film)) (sym scenes) tt);
        lies = lt-ltb (length path.scenes) (depth_of view.search) (omega (arith, ap (λ (xs : List ℕ). length xs) scenes, deep));
        later = tt;
        some = some_;
        below = omega (arith, below, static_there, start);
      };
      static_bound = static_there;
    }

    -- the path of one scene, behind that without one
    pub may_enlist_one : (whole : PathData) (count first : ℕ) → record_at 0 view.entries ≡ Some (record { last = Some whole; number = count }) → whole.scenes ≡ [] → path.scenes ≡ first ∷ []
        → has (open_firsts film (all_scenes film)) first ≡ true → 2 ≤ depth_of view.search → MayEnlistNext view 0 path number
    may_enlist_one whole count first stands none scenes opens deep = record {
      next = record {
        entry = record { last = Some whole; number = count };
        stands = stands;
        is_open = subst (λ (r : Rules). IsOpen r path) same_rules (is, subst (AreFirsts (open_firsts film) (all_scenes film)) (sym scenes) (opens, tt));
        lies = lt-ltb (length path.scenes) (depth_of view.search) (omega (arith, ap (λ (xs : List ℕ). length xs) scenes, deep));
        later = subst (λ (xs : List ℕ). IsEarlier (search_rules view.search) (all_scenes view.search.film) xs path.scenes) (sym none)
            (subst (IsEarlier (search_rules view.search) (all_scenes view.search.film) []) (sym scenes) tt);
        some = some_;
        below = omega (arith, below, static_there, start);
      };
      static_bound = static_there;
    }

  -- the line of all scenes, where each first step reaches the bound with that of what remains
  pub may_raise_whole : (line number : ℕ) → line < length view.lines → (line_at view.lines line).set ≡ all_scenes film → all_scenes film ≢ 0
      → ((scene : ℕ) → has (open_firsts film (all_scenes film)) scene ≡ true
      → number ≤ step_cost film (all_scenes film) scene + bound kind film (without (all_scenes film) scene))
      → MayRaiseKnown view line number
  may_raise_whole line number there made some_ each = record {
    there = there;
    justified = whole_justified kind film view.search view.lines by line number made some_ each;
  }

-- ---- a search whose one task is a path of its film

all_of_one : {X : Type 0} (P : X → Type 0) (x : X) → P x → All P (x ∷ [])
all_of_one P x holds zero d within = holds
all_of_one P x holds (suc k) d within = absurd (omega (arith, within))

pub one_start : (film : FilmData) (kind : Kind) (nodes start : ℕ) (task : PathData) → IsPath film task
    → AreStarts (record { film = film; kind = kind; nodes = nodes; start = start; tasks = task ∷ [] })
one_start film kind nodes start task is = record {
  paths = all_of_one (IsPath film) task is;
  long = all_of_one (λ path. length path.scenes ≡ length task.scenes) task refl;
  apart = λ i j d lt within. absurd (omega (arith, lt, within));
  few = omega arith;
}

-- ---- parts whose task is the path without a scene

lies_in_each : (depth : ℕ) (tasks : List PathData) (part : ℕ) (path : PathData) → 0 < part → ((task : ℕ) → (slice_index_or tasks task no_task).scenes ≡ [])
    → lies_in depth tasks part path ≡ true
lies_in_each depth tasks zero path some_ wholes = absurd (omega (arith, some_))
lies_in_each depth tasks (suc task) path some_ wholes = subst (λ (xs : List ℕ). starts_with nat_eq path.scenes xs ≡ true) (sym (wholes task)) refl

pub may_enlist_in : (kind : Kind) (film : FilmData) (count part number : ℕ) (view : ViewData) (path : PathData) → IsOfWholes kind film count view.search → 0 < part
    → record_at part view.entries ≡ Some no_path_yet → IsPath film path → path.scenes ≡ [] → path.paid ≡ 0 → path.rest ≢ 0 → number ≡ bound kind film path.rest → number < 14
    → MayEnlistNext view part path number
may_enlist_in kind film count part number view path of some_part stands is scenes paid some_ static below =
    let there : number ≡ (search_rules view.search).bound path.rest = static_there kind film view of.goes_by path number of.start is some_ static (omega (arith, paid, below)) in
    record {
      next = record {
        entry = no_path_yet;
        stands = stands;
        is_open = subst (λ (r : Rules). IsOpen r path) (same_rules kind film view of.goes_by) (is, subst (AreFirsts (open_firsts film) (all_scenes film)) (sym scenes) tt);
        lies = lies_in_each (depth_of view.search) view.search.tasks part path some_part of.wholes;
        later = tt;
        some = some_;
        below = omega (arith, below, paid, there, of.start);
      };
      static_bound = there;
    }

all_whole : (count : ℕ) (whole : Path) → (path_data whole).scenes ≡ [] → (task : ℕ) → (slice_index_or (map path_data (replicate count whole)) task no_task).scenes ≡ []
all_whole zero whole scenes task = refl
all_whole (suc count) whole scenes zero = scenes
all_whole (suc count) whole scenes (suc task) = all_whole count whole scenes task

pub are_wholes : (kind named : Kind) (film told : FilmData) (count most : ℕ) (whole : Path) (tasks : List Path) (view : ViewData) → named ≡ kind → told ≡ film
    → (path_data whole).scenes ≡ [] → tasks ≡ replicate count whole
    → view ≡ first_view (record { film = told; kind = named; nodes = most; start = 14; tasks = map path_data tasks }) → IsOfWholes kind film count view.search
are_wholes kind named film told count most whole tasks view same_kind same_film scenes are first =
    subst (λ (v : ViewData). IsOfWholes kind film count v.search) (sym first)
    (record {
      goes_by = (same_film, same_kind);
      start = refl;
      wholes = λ task. subst (λ (ts : List Path). (slice_index_or (map path_data ts) task no_task).scenes ≡ []) (sym are) (all_whole count whole scenes task);
      tasks = length-map tasks path_data ∙ ap (λ (ts : List Path). length ts) are ∙ length-replicate count whole;
    })
