-- What holds of the paths and the tasks of a front.
use Rattle.std.proofs.Common.{◌≡◌, ◌≢◌, ◌⊎◌, ℕ, suc, ◌+◌, ◌<◌, ◌≤◌, true, List, [], length, get_or, All, Contains, inl, inr, sym, ap, ◌∙◌, arith}
use Rattle.std.specs.List.{AllPairs}
use Rattle.std.proofs.lemmas.Bool.{cases_lt, cases_order}
use Rattle.std.proofs.lemmas.List.{get_or_default, length_push}
use Rattle.std.proofs.lemmas.List.Elements.{Contains-get_or}
use Rattle.std.proofs.lemmas.List.Sorted.{All-permutation, Contains-permutation, length_permutation}
use Rattle.strip_mask.specs.Set.{has, size, without}
use Rattle.strip_model.specs.declared.kind.Kind.{Kind}
use Rattle.strip_model.specs.Film.{FilmData}
use Rattle.strip_film.specs.Film.{IsFilm, all_scenes}
use Rattle.strip_film.specs.Path.{PathData, extended}
use Rattle.strip_film.specs.Ranks.{IsEarlier}
use Rattle.strip_film.specs.Rules.{IsOpen}
use Rattle.strip_film.specs.Shoot.{step_cost}
use Rattle.strip_rule.specs.Rule.{open_firsts}
use Rattle.strip_lines.specs.Lines.{rules_of}
use Rattle.strip_lines.specs.Paths.{path_along}
use Rattle.strip_hand.specs.Search.{SearchData, depth_of}
use Rattle.strip_lines.specs.Parts.{no_task}
use Rattle.strip_paths.proofs.After.{more_open}
use Rattle.strip_paths.proofs.Rests.{others_permuted}
use Rattle.strip_front.specs.Layers.{layer}
use Rattle.strip_front.proofs.Facts.{LayerFacts}
use Rattle.strip_front.proofs.Layered.{layer_facts}
use Rattle.strip_front.proofs.ShorterPaths.{counted, first_is_empty, shorter_apart, shorter_least, shorter_open, shorter_rest, shorter_short}
use Rattle.strip_front.specs.Front.{FrontData, IsFrontOf, path_at, task_at}

-- what leaves a set after a path: a path one scene longer, or a task; it pays no more than the path with the step
abbrev pub IsPathAfter : FilmData → FrontData → ℕ → ℕ → ℕ → Type 0
IsPathAfter film front place scene other =
    (other < length front.paths) × ((path_at front other).rest ≡ without (path_at front place).rest scene)
    × ((path_at front other).paid ≤ (path_at front place).paid + step_cost film (path_at front place).rest scene)
    × (length (path_at front other).scenes ≡ suc (length (path_at front place).scenes))

abbrev pub IsTaskAfter : FilmData → FrontData → ℕ → ℕ → ℕ → Type 0
IsTaskAfter film front place scene task =
    (task < length front.tasks) × ((task_at front task).rest ≡ without (path_at front place).rest scene)
    × ((task_at front task).paid ≤ (path_at front place).paid + step_cost film (path_at front place).rest scene)
    × (front.depth ≡ suc (length (path_at front place).scenes))

pub record FrontFacts (kind : Kind) (film : FilmData) (front : FrontData) : Type 0 where
  pub some : 0 < length front.paths
  pub first : path_at front 0 ≡ path_along film []
  pub is_open : (place : ℕ) → place < length front.paths → IsOpen (rules_of kind film) (path_at front place)
  pub short : (place : ℕ) → place < length front.paths → length (path_at front place).scenes < front.depth
  pub remains : (place : ℕ) → place < length front.paths → (path_at front place).rest ≢ 0
  pub rise : (place other : ℕ) → place < other → other < length front.paths
      → IsEarlier (rules_of kind film) (all_scenes film) (path_at front place).scenes (path_at front other).scenes
  pub one_path : (place other : ℕ) → place < length front.paths → other < length front.paths → (path_at front place).rest ≡ (path_at front other).rest → place ≡ other
  pub one_task : (task other : ℕ) → task < length front.tasks → other < length front.tasks → (task_at front task).rest ≡ (task_at front other).rest → task ≡ other
  pub tasks_apart : AllPairs (λ a b. a.rest ≢ b.rest) front.tasks
  pub never_both : (place task : ℕ) → place < length front.paths → task < length front.tasks → (path_at front place).rest ≡ (task_at front task).rest → ⊥
  pub depth_is : (search : SearchData) → search.tasks ≡ front.tasks → depth_of search ≡ front.depth
  pub after : (place scene : ℕ) → place < length front.paths → has (open_firsts film (path_at front place).rest) scene ≡ true
      → ((other : ℕ) × IsPathAfter film front place scene other) ⊎ ((task : ℕ) × IsTaskAfter film front place scene task)

-- of two places of a list whose paths leave different sets
one_place : (paths : List PathData) (i j : ℕ) → AllPairs (λ a b. a.rest ≢ b.rest) paths → i < length paths → j < length paths
    → (get_or paths i no_task).rest ≡ (get_or paths j no_task).rest → i ≡ j
one_place paths i j apart one two same = elim (cases_order i j) [
  | inl is ↦ is
  | inr (inl less) ↦ absurd (apart i j no_task less two same)
  | inr (inr more) ↦ absurd (apart j i no_task more one (sym same))
]

module _ (kind : Kind) (film : FilmData) (front : FrontData) (is : IsFilm film) (front_of : IsFrontOf (rules_of kind film) front) where
  layers : (count : ℕ) → LayerFacts kind film count
  layers = layer_facts kind film is

  abbrev whole : List PathData
  whole = layer film front.depth

  there : (place : ℕ) → place < length front.paths → Contains front.paths (path_at front place)
  there place within = Contains-get_or front.paths place no_task within

  open_path : (place : ℕ) → place < length front.paths → IsOpen (rules_of kind film) (path_at front place)
  open_path place within = shorter_open kind film front.depth layers front.paths front_of.paths (path_at front place) (there place within)

  short_path : (place : ℕ) → place < length front.paths → length (path_at front place).scenes < front.depth
  short_path place within = shorter_short kind film front.depth layers front.paths front_of.paths (path_at front place) (there place within)

  task_count : length front.tasks ≡ length whole
  task_count = length_permutation whole front.tasks front_of.tasks.same

  long_task : (task : ℕ) → task < length front.tasks → length (task_at front task).scenes ≡ front.depth
  long_task task within = All-permutation (λ path. length path.scenes ≡ front.depth) whole front.tasks front_of.tasks.same (layers front.depth).long task no_task within

  open_task : (task : ℕ) → task < length front.tasks → IsOpen (rules_of kind film) (task_at front task)
  open_task task within = All-permutation (IsOpen (rules_of kind film)) whole front.tasks front_of.tasks.same (layers front.depth).is_open task no_task within

  -- the tasks are open paths
  pub front_open : All (IsOpen (rules_of kind film)) front.tasks
  front_open = All-permutation (IsOpen (rules_of kind film)) whole front.tasks front_of.tasks.same (layers front.depth).is_open

  all_apart : AllPairs (λ a b. a.rest ≢ b.rest) front.tasks
  all_apart = others_permuted whole front.tasks front_of.tasks.same (layers front.depth).apart

  -- a path of a scene more
  module _ (place scene : ℕ) (within : place < length front.paths) (member : has (open_firsts film (path_at front place).rest) scene ≡ true) where
    abbrev path : PathData
    path = path_at front place

    abbrev longer : PathData
    longer = extended film path scene

    long_by_one : length longer.scenes ≡ suc (length path.scenes)
    long_by_one = omega (arith, length_push path.scenes scene)

    open_longer : IsOpen (rules_of kind film) longer
    open_longer = more_open kind film path scene (open_path place within) member

    goes_on : suc (length path.scenes) < front.depth → (other : ℕ) × IsPathAfter film front place scene other
    goes_on short =
        let found = shorter_least kind film front.depth layers front.paths front_of.paths longer open_longer (omega (arith, short, long_by_one)) in
        let at : get_or front.paths found.1.0 no_task ≡ found.0 = get_or_default front.paths found.1.0 no_task found.0 found.1.1 ∙ found.1.2 in
        let rest : (path_at front found.1.0).rest ≡ without path.rest scene = ap (λ (p : PathData). p.rest) at ∙ found.2 in (
          found.1.0,
          (
            found.1.1,
            rest,
            omega (arith, ap (λ (p : PathData). p.paid) at, found.3),
            omega (
              arith,
              counted film (path_at front found.1.0) is (open_path found.1.0 found.1.1).0,
              counted film longer is open_longer.0,
              ap size rest,
              long_by_one,
            ),
          ),
        )

    ends : suc (length path.scenes) ≡ front.depth → (task : ℕ) × IsTaskAfter film front place scene task
    ends deep =
        let found = (layers front.depth).least longer open_longer (long_by_one ∙ deep) in
        let among = Contains-permutation whole front.tasks found.0 front_of.tasks.same found.1 in
        let at : get_or front.tasks among.0 no_task ≡ found.0 = get_or_default front.tasks among.0 no_task found.0 among.1 ∙ among.2 in (
          among.0,
          (
            among.1,
            ap (λ (p : PathData). p.rest) at ∙ found.2,
            omega (arith, ap (λ (p : PathData). p.paid) at, found.3),
            sym deep,
          ),
        )

    goes_on_or_ends : ((other : ℕ) × IsPathAfter film front place scene other) ⊎ ((task : ℕ) × IsTaskAfter film front place scene task)
    goes_on_or_ends = elim (cases_lt (suc (length path.scenes)) front.depth) [
      | inl less ↦ inl (goes_on less)
      | inr more ↦ inr (ends (omega (arith, more, short_path place within)))
    ]

  pub front_facts : FrontFacts kind film front
  front_facts =
      let first = first_is_empty (rules_of kind film) front.depth front.paths front_of.depth.some front_of.paths in
      let apart = shorter_apart kind film front.depth layers front.paths front_of.paths is in record {
        some = first.0;
        first = first.1 no_task;
        is_open = open_path;
        short = short_path;
        remains = λ place within. shorter_rest kind film front.depth layers front.paths front_of.paths (path_at front place) (there place within) is front_of.depth.most;
        rise = λ place other before within. front_of.paths.rise place other no_task before within;
        one_path = λ place other within other_within same. one_place front.paths place other apart within other_within same;
        one_task = λ task other within other_within same. one_place front.tasks task other all_apart within other_within same;
        tasks_apart = all_apart;
        never_both = λ place task within task_within same. absurd (omega (
          arith,
          counted film (path_at front place) is (open_path place within).0,
          counted film (task_at front task) is (open_task task task_within).0,
          ap size same,
          short_path place within,
          long_task task task_within,
        ));
        depth_is = λ search same. ap (λ (tasks : List PathData). length (get_or tasks 0 no_task).scenes) same
            ∙ long_task 0 (omega (arith, task_count, (layers front.depth).some front_of.depth.most));
        after = λ place scene within member. goes_on_or_ends place scene within member;
      }
