-- Tasks that are asked for one after another.
use Rattle.std.proofs.Common.{◌≡◌, ltb, ◌≢◌, ◌⊎◌, ◌↔◌, ◌==◌, ℕ, ◌+◌, ◌<◌, ◌≤◌, Bool, true, false, Some, None, List, [], ◌∷◌, ◌++◌, length, get_or, slice_set, Contains, IsSome, inl, inr, refl, sym, ap, ◌∙◌, subst, arith}
use Rattle.std.specs.List.{AllPairs, position, position_or_len}
use Rattle.std.proofs.lemmas.List.Sums.{fails_before_first}
use Rattle.std.proofs.lemmas.Bool.{cases_eq, cases_lt, cond-true, lt-ltb, cases_order, eqb-true, eq-eqb}
use Rattle.std.proofs.lemmas.List.{get_or-set_other, get_or-set_same, length-set}
use Rattle.std.proofs.lemmas.List.Elements.{Contains-append_left, Contains-push, Contains-push_cases}
use Rattle.std.proofs.lemmas.List.Quantifiers.{position-Some}
use Rattle.strip_mask.specs.Set.{has, without}
use Rattle.strip_model.specs.Film.{FilmData}
use Rattle.strip_model.proofs.Lists.{contains_none}
use Rattle.strip_rule.specs.Rule.{open_firsts}
use Rattle.strip_film.specs.Path.{PathData}
use Rattle.strip_film.specs.Rules.{Rules}
use Rattle.strip_lines.specs.Parts.{no_task}
use Rattle.strip_front.specs.Filled.{Follows, IsWanted}
use Rattle.strip_front.specs.Front.{FrontData, IsFrontOf, line_of, path_at, task_at}
use Rattle.strip_front.specs.Marked.{MarksMore}

-- the path leaves this set
abbrev pub leaves_it : ℕ → PathData → Bool
leaves_it rest path = path.rest == rest

-- without a first place none leaves the set
pub none_leaves_it : (rest : ℕ) (paths : List PathData) → position (leaves_it rest) paths ≡ None → (place : ℕ) → place < length paths
    → (get_or paths place no_task).rest ≡ rest → ⊥
none_leaves_it rest paths none place within leaves = elim (cases_lt (position_or_len (leaves_it rest) paths) (length paths)) [
  | inl lt ↦ absurd (let here : position (leaves_it rest) paths ≡ Some (position_or_len (leaves_it rest) paths)
      = cond-true (ltb (position_or_len (leaves_it rest) paths) (length paths)) (Some (position_or_len (leaves_it rest) paths)) None (lt-ltb (position_or_len (leaves_it rest) paths) (length paths) lt) in cc)
  | inr le ↦ absurd (let fails : leaves_it rest (get_or paths place no_task) ≡ false = fails_before_first (leaves_it rest) paths place no_task (omega (arith, within, le)) in
      let passes : leaves_it rest (get_or paths place no_task) ≡ true = eq-eqb (get_or paths place no_task).rest rest leaves in cc)
]

-- where a first place is found, it leaves the set
pub leaves_there : (rest : ℕ) (paths : List PathData) (place : ℕ) → position (leaves_it rest) paths ≡ Some place
    → (place < length paths) × ((get_or paths place no_task).rest ≡ rest)
leaves_there rest paths place at =
    let found = position-Some (leaves_it rest) paths place no_task at in (found.0, eqb-true (get_or paths place no_task).rest rest found.1)

module _ (front : FrontData) (rest : ℕ) where
  pub ask_nothing : position (leaves_it rest) front.tasks ≡ None → MarksMore front front (λ task. (task_at front task).rest ≡ rest)
  ask_nothing none = record {
    only = refl;
    count = refl;
    marked = λ task within. (
      (λ was. inl was),
      (λ either. elim either [
        | inl was ↦ was
        | inr leaves ↦ absurd (none_leaves_it rest front.tasks none task within leaves)
      ]),
    );
  }

  module _ (count : length front.wanted ≡ length front.tasks) (apart : AllPairs (λ a b. a.rest ≢ b.rest) front.tasks) (place : ℕ)
      (at : position (leaves_it rest) front.tasks ≡ Some place) where
    abbrev after : List Bool
    after = slice_set front.wanted place true

    there : (place < length front.tasks) × ((task_at front place).rest ≡ rest)
    there = leaves_there rest front.tasks place at

    one : (task : ℕ) → task < length front.tasks → (task_at front task).rest ≡ rest → task ≡ place
    one task within leaves = elim (cases_order task place) [
      | inl same ↦ same
      | inr (inl less) ↦ absurd (apart task place no_task less there.0 (leaves ∙ sym there.1))
      | inr (inr more) ↦ absurd (apart place task no_task more within (there.1 ∙ sym leaves))
    ]

    here : get_or after place false ≡ true
    here = get_or-set_same front.wanted place true false (omega (arith, there.0, count))

    pub ask_found : MarksMore front (record front { wanted = after }) (λ task. (task_at front task).rest ≡ rest)
    ask_found = record {
      only = refl;
      count = length-set front.wanted place true;
      marked = λ task within. (
        (λ is. elim (cases_eq task place) [
          | inl same ↦ inr (ap (λ (t : ℕ). (task_at front t).rest) same ∙ there.1)
          | inr other ↦ inl (sym (get_or-set_other front.wanted place task true false other) ∙ is)
        ]),
        (λ either. elim either [
          | inl was ↦ elim (cases_eq task place) [
            | inl same ↦ ap (λ (t : ℕ). get_or after t false) same ∙ here
            | inr other ↦ get_or-set_other front.wanted place task true false other ∙ was
          ]
          | inr leaves ↦ ap (λ (t : ℕ). get_or after t false) (one task within leaves) ∙ here
        ]),
      );
    }

-- one after the other
pub marks_then : (start now after : FrontData) (First Second Both : ℕ → Type 0) → MarksMore start now First → MarksMore now after Second
    → ((task : ℕ) → task < length start.tasks → (First task ⊎ Second task) ↔ Both task) → MarksMore start after Both
marks_then start now after First Second Both one two both = record {
  only = two.only ∙ ap (λ (f : FrontData). record f { wanted = after.wanted }) one.only;
  count = two.count ∙ one.count;
  marked = λ task within.
      let first = one.marked task within in
      let second = two.marked task (omega (arith, within, ap (λ (f : FrontData). length f.tasks) one.only)) in (
        (λ is. elim (second.0 is) [
          | inl before ↦ elim (first.0 before) [
            | inl was ↦ inl was
            | inr holds ↦ inr ((both task within).0 (inl holds))
          ]
          | inr holds ↦ inr ((both task within).0 (inr holds))
        ]),
        (λ either. elim either [
          | inl was ↦ second.1 (inl (first.1 (inl was)))
          | inr holds ↦ elim ((both task within).1 holds) [
            | inl one_holds ↦ second.1 (inl (first.1 (inr one_holds)))
            | inr two_holds ↦ second.1 (inr two_holds)
          ]
        ]),
      );
}

pub marks_none : (start : FrontData) (Holds : ℕ → Type 0) → ((task : ℕ) → task < length start.tasks → Holds task → ⊥) → MarksMore start start Holds
marks_none start Holds none = record {
  only = refl;
  count = refl;
  marked = λ task within. (
    (λ was. inl was),
    (λ either. elim either [
      | inl was ↦ was
      | inr holds ↦ absurd (none task within holds)
    ]),
  );
}

-- ---- the open firsts of a set

-- the task leaves what one of the scenes leaves of the set
abbrev pub Leaves : FrontData → ℕ → List ℕ → ℕ → Type 0
Leaves front rest scenes task = (scene : ℕ) × Contains scenes scene × ((task_at front task).rest ≡ without rest scene)

module _ (start now after : FrontData) (rest : ℕ) (scenes : List ℕ) (scene : ℕ) (marks : MarksMore start now (Leaves start rest scenes)) where
  pub leaves_more : MarksMore now after (λ task. (task_at now task).rest ≡ without rest scene) → MarksMore start after (Leaves start rest (scenes ++ scene ∷ []))
  leaves_more more =
      marks_then start now after (Leaves start rest scenes) (λ task. (task_at now task).rest ≡ without rest scene) (Leaves start rest (scenes ++ scene ∷ [])) marks more
      (λ task within. (
        (λ either. elim either [
          | inl old ↦ (old.0, Contains-append_left scenes (scene ∷ []) old.0 old.1, old.2)
          | inr new ↦ (scene, Contains-push scenes scene, sym (same task) ∙ new)
        ]),
        (λ one. elim (Contains-push_cases scenes scene one.0 one.1) [
          | inl old ↦ inl (one.0, old, one.2)
          | inr new ↦ inr (same task ∙ one.2 ∙ ap (without rest) (sym new))
        ]),
      ))
    where
      same : (task : ℕ) → (task_at now task).rest ≡ (task_at start task).rest
      same task = ap (λ (f : FrontData). (task_at f task).rest) marks.only

-- ---- the paths that have lines

-- the task follows from one of the paths before a place, which has a line
abbrev pub FollowsBefore : FilmData → FrontData → ℕ → ℕ → Type 0
FollowsBefore film front count task =
    (place : ℕ) × (place < count) × IsSome (line_of front place) × Follows film (path_at front place).rest (task_at front task).rest

module _ (film : FilmData) (start now after : FrontData) (place : ℕ) (marks : MarksMore start now (FollowsBefore film start place)) where
  same_lines : (p : ℕ) → line_of now p ≡ line_of start p
  same_lines p = ap (λ (f : FrontData). line_of f p) marks.only

  earlier_or_here : (task p : ℕ) → p < place + 1 → IsSome (line_of start p) → Follows film (path_at start p).rest (task_at start task).rest
      → FollowsBefore film start place task ⊎ (IsSome (line_of start place) × Follows film (path_at start place).rest (task_at start task).rest)
  earlier_or_here task p earlier some follows = elim (cases_eq p place) [
    | inl same ↦ inr (subst (λ (x : ℕ). IsSome (line_of start x) × Follows film (path_at start x).rest (task_at start task).rest) same (some, follows))
    | inr other ↦ inl (p, omega (arith, earlier, other), some, follows)
  ]

  pub follows_more : MarksMore now after (λ task. IsSome (line_of now place) × Follows film (path_at now place).rest (task_at now task).rest)
      → MarksMore start after (FollowsBefore film start (place + 1))
  follows_more more =
      marks_then start now after (FollowsBefore film start place) (λ task. IsSome (line_of now place) × Follows film (path_at now place).rest (task_at now task).rest)
      (FollowsBefore film start (place + 1)) marks more
      (λ task within. (
        (λ either. elim either [
          | inl old ↦ (old.0, omega (arith, old.1), old.2, old.3)
          | inr new ↦ (let here = behind_here task new in (place, omega arith, here.0, here.1))
        ]),
        (λ one. elim (earlier_or_here task one.0 one.1 one.2 one.3) [
          | inl old ↦ inl old
          | inr new ↦ inr (behind_now task new)
        ]),
      ))
    where
      Behind : FrontData → ℕ → Type 0
      Behind front task = IsSome (line_of front place) × Follows film (path_at front place).rest (task_at front task).rest

      behind_here : (task : ℕ) → Behind now task → Behind start task
      behind_here task holds = subst (λ (f : FrontData). Behind f task) marks.only holds

      behind_now : (task : ℕ) → Behind start task → Behind now task
      behind_now task holds = subst (λ (f : FrontData). Behind f task) (sym marks.only) holds

-- the front stays one of the search
pub front_marked : (rules : Rules) (front later : FrontData) (Holds : ℕ → Type 0) → MarksMore front later Holds → IsFrontOf rules front → IsFrontOf rules later
front_marked rules front later Holds marks is = subst (IsFrontOf rules) (sym marks.only) (record {
  depth = is.depth;
  tasks = is.tasks;
  wanted = marks.count ∙ is.wanted;
  paths = is.paths;
  lines = is.lines;
})

-- where each path was looked at
pub follows_all : (film : FilmData) (start now : FrontData) (place : ℕ) → length start.paths ≤ place → place ≤ length start.paths
    → MarksMore start now (FollowsBefore film start place) → MarksMore start now (IsWanted film start)
follows_all film start now place least most marks = record {
  only = marks.only;
  count = marks.count;
  marked = λ task within. (
      let tells = marks.marked task within in (
        (λ is. elim (tells.0 is) [
          | inl was ↦ inl was
          | inr holds ↦ inr (holds.0, omega (arith, holds.1, most), holds.2, holds.3)
        ]),
        (λ either. elim either [
          | inl was ↦ tells.1 (inl was)
          | inr holds ↦ tells.1 (inr (holds.0, omega (arith, holds.1, least), holds.2, holds.3))
        ]),
      )
      );
}

pub follows_none : (film : FilmData) (start : FrontData) → MarksMore start start (FollowsBefore film start 0)
follows_none film start = marks_none start (FollowsBefore film start 0) (λ task within holds. omega (arith, holds.1))

-- where all open firsts of a set were looked at
pub leaves_all : (film : FilmData) (start now : FrontData) (rest : ℕ) (scenes : List ℕ) → ((scene : ℕ) → Contains scenes scene ↔ (has (open_firsts film rest) scene ≡ true))
    → MarksMore start now (Leaves start rest scenes) → MarksMore start now (λ task. Follows film rest (task_at start task).rest)
leaves_all film start now rest scenes all marks = record {
  only = marks.only;
  count = marks.count;
  marked = λ task within. (
      let tells = marks.marked task within in (
        (λ is. elim (tells.0 is) [
          | inl was ↦ inl was
          | inr holds ↦ inr (holds.0, (all holds.0).0 holds.1, holds.2)
        ]),
        (λ either. elim either [
          | inl was ↦ tells.1 (inl was)
          | inr holds ↦ tells.1 (inr (holds.0, (all holds.0).1 holds.1, holds.2))
        ]),
      )
      );
}

pub leaves_none : (start : FrontData) (rest : ℕ) → MarksMore start start (Leaves start rest [])
leaves_none start rest = marks_none start (Leaves start rest []) (λ task within holds. contains_none holds.0 holds.1)

-- what follows from the path at a place, which has a line
pub marks_line : (film : FilmData) (front later : FrontData) (place : ℕ) → IsSome (line_of front place)
    → MarksMore front later (λ task. Follows film (path_at front place).rest (task_at front task).rest)
    → MarksMore front later (λ task. IsSome (line_of front place) × Follows film (path_at front place).rest (task_at front task).rest)
marks_line film front later place some marks = record {
  only = marks.only;
  count = marks.count;
  marked = λ task within. (
      let tells = marks.marked task within in (
        (λ is. elim (tells.0 is) [
          | inl was ↦ inl was
          | inr holds ↦ inr (some, holds)
        ]),
        (λ either. elim either [
          | inl was ↦ tells.1 (inl was)
          | inr holds ↦ tells.1 (inr holds.1)
        ]),
      )
      );
}
