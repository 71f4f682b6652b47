-- The least number of a loop over the open firsts of a set.
use Rattle.std.proofs.Common.{◌≡◌, ◌≢◌, ℕ, ◌+◌, ◌-◌, ◌*◌, ◌^◌, ◌<◌, ◌≤◌, min, true, List, [], ◌∷◌, ◌++◌, length, slice_index, Contains, inl, inr, ap, subst, arith}
use Rattle.std.proofs.lemmas.List.Elements.{Contains-append_left, Contains-push, Contains-push_cases}
use Rattle.strip_mask.specs.Set.{has, members, minus, size, sum_over, without}
use Rattle.strip_mask.proofs.Below.{LiesBelow-full, LiesBelow-without, is_set_below, size-full}
use Rattle.strip_mask.proofs.Members.{Contains-members, has_from_members}
use Rattle.strip_mask.proofs.Sizes.{size-empty}
use Rattle.strip_model.specs.declared.kind.Kind.{Kind}
use Rattle.strip_model.specs.Film.{FilmData}
use Rattle.strip_model.proofs.Lists.{contains_none}
use Rattle.strip_film.specs.Film.{IsFilm, LiesIn, all_scenes}
use Rattle.strip_film.specs.Shoot.{step_cost}
use Rattle.strip_film.proofs.Costs.{step_limit}
use Rattle.strip_bound.specs.Bounds.{bound}
use Rattle.strip_bound.proofs.Small.{bound_small}
use Rattle.strip_rule.specs.Rule.{open_firsts}
use Rattle.strip_rule.proofs.Firsts.{first_there, firsts_set}
use Rattle.strip_rule.proofs.Open.{open_begins_least}
use Rattle.strip_lines.specs.Lines.{least_step, rules_of}
use Rattle.strip_lines.proofs.Ahead.{least_step_le}
use Rattle.strip_layers.specs.Begun.{LooksAhead}

-- the greatest number of 64 bits that is at most what each scene of a list reaches
pub record IsLeastSo (reach : ℕ → ℕ) (scenes : List ℕ) (least : ℕ) : Type 0 where
  pub most : (scene : ℕ) → Contains scenes scene → least ≤ reach scene
  pub greatest : (cost : ℕ) → cost < 2 ^ 64 → ((scene : ℕ) → Contains scenes scene → cost ≤ reach scene) → cost ≤ least

-- what a first of a set reaches: its step with the value of the set behind it
abbrev pub reach_of : FilmData → ℕ → (ℕ → ℕ) → ℕ → ℕ
reach_of film set value scene = step_cost film set scene + value (without set scene)

-- a step while these actors are on location
abbrev pub step_by : FilmData → ℕ → ℕ → ℕ
step_by film scene on = slice_index film.days scene * (sum_over film.rates (slice_index film.casts scene)
    + sum_over film.holds (minus on (slice_index film.casts scene)))

module _ (reach : ℕ → ℕ) where
  pub least_none : (least : ℕ) → least ≡ 2 ^ 64 - 1 → IsLeastSo reach [] least
  least_none least is = record {
    most = λ scene there. absurd (contains_none scene there);
    greatest = λ cost small each. omega (arith, is, small);
  }

  pub least_more : (scenes : List ℕ) (scene least here next : ℕ) → IsLeastSo reach scenes least → here ≡ min (reach scene) (2 ^ 64 - 1)
      → next ≡ min least here → IsLeastSo reach (scenes ++ scene ∷ []) next
  least_more scenes scene least here next is here_is next_is = record {
    most = λ s there. elim (Contains-push_cases scenes scene s there) [
      | inl old ↦ omega (arith, is.most s old, next_is)
      | inr new ↦ subst (λ (x : ℕ). next ≤ reach x) new (omega (arith, here_is, next_is))
    ];
    greatest = λ cost small each. omega (
      arith,
      next_is,
      here_is,
      small,
      is.greatest cost small (λ s there. each s (Contains-append_left scenes (scene ∷ []) s there)),
      each scene (Contains-push scenes scene),
    );
  }

  module _ (film : FilmData) (set least : ℕ) (is_film : IsFilm film) (lies : LiesIn film set)
      (is : IsLeastSo reach (members (open_firsts film set)) least) where
    pub among : (scene : ℕ) → has (open_firsts film set) scene ≡ true → Contains (members (open_firsts film set)) scene
    among scene first = Contains-members (open_firsts film set) scene (firsts_set film set is_film lies) first

    pub least_most : (scene : ℕ) → has (open_firsts film set) scene ≡ true → least ≤ reach scene
    least_most scene first = is.most scene (among scene first)

    pub least_greatest : (cost : ℕ) → cost < 2 ^ 64 → ((scene : ℕ) → has (open_firsts film set) scene ≡ true → cost ≤ reach scene) → cost ≤ least
    least_greatest cost small each = is.greatest cost small (λ scene there. each scene (has_from_members (open_firsts film set) scene there))

-- what is so found from all scenes with their static bounds looks ahead
module _ (kind : Kind) (film : FilmData) (least : ℕ) (is_film : IsFilm film)
    (is : IsLeastSo (reach_of film (all_scenes film) (bound kind film)) (members (open_firsts film (all_scenes film))) least) where
  abbrev all : ℕ
  all = all_scenes film

  all_lie : LiesIn film all
  all_lie = LiesBelow-full (length film.casts)

  some : all ≢ 0
  some none = omega (arith, size-full (length film.casts) is_film.scene_count.1, ap size none, size-empty, is_film.scene_count.0)

  first : (scene : ℕ) × (has (open_firsts film all) scene ≡ true)
  first = (let begins = open_begins_least film is_film all all_lie some in (begins.0, begins.1))

  abbrev lowest : ℕ
  lowest = least_step (rules_of kind film) all (bound kind film all) (members (open_firsts film all))

  below : (scene : ℕ) → has (open_firsts film all) scene ≡ true → lowest ≤ reach_of film all (bound kind film) scene
  below scene member = least_step_le (rules_of kind film) all (bound kind film all) (members (open_firsts film all)) scene
      (among (reach_of film all (bound kind film)) film all least is_film all_lie is scene member)

  small : lowest < 2 ^ 64
  small = omega (
    arith,
    below first.0 first.1,
    step_limit film all first.0 is_film (is_set_below (length film.casts) all is_film.scene_count.1 all_lie) (first_there film all first.0 first.1),
    bound_small kind film (without all first.0) is_film (LiesBelow-without (length film.casts) all first.0 all_lie),
  )

  pub looks_ahead : LooksAhead (rules_of kind film) least
  looks_ahead = record {
    most = λ scene member. least_most (reach_of film all (bound kind film)) film all least is_film all_lie is scene member;
    ahead = omega (arith, least_greatest (reach_of film all (bound kind film)) film all least is_film all_lie is lowest small below);
  }
