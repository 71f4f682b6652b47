-- The scene with the least step among those that were tried.
use Rattle.std.proofs.Common.{◌≡◌, ℕ, ◌<◌, ◌≤◌, ◌⊎◌, nat_lt, Option, Some, None, MatchBool, MatchOption, List}
use Rattle.std.proofs.Common.{[], ◌∷◌, ◌++◌, Contains, inl, inr, sym, ap, ◌∙◌, subst, arith}
use Rattle.std.proofs.lemmas.Bool.{cases_eq, cases_lt, le-ltb, lt-ltb}
use Rattle.std.proofs.lemmas.List.Elements.{Contains-append_left, Contains-push, Contains-push_cases}
use Rattle.strip_mask.specs.Set.{IsSet, members}
use Rattle.strip_mask.proofs.Members.{Contains-members, has_from_members}
use Rattle.strip_model.specs.Film.{FilmData}
use Rattle.strip_mask.proofs.Lists.{contains_none}
use Rattle.strip_film.specs.Film.{IsFilm}
use Rattle.strip_film.specs.Shoot.{ready, step_cost}
use Rattle.strip_film.proofs.ByPairs.{some_ready}
use Rattle.strip_start.specs.declared.choose.Choice.{Choice}
use Rattle.strip_start.specs.Greedy.{IsLeastStep}
use Rattle.strip_mask.proofs.Turns.{lesser_before}

-- the step of the first scene is less, or it is equal and its number is not greater
abbrev pub NoMore : FilmData → ℕ → ℕ → ℕ → Type 0
NoMore film set scene other =
    (step_cost film set scene < step_cost film set other) ⊎ ((step_cost film set scene ≡ step_cost film set other) × (scene ≤ other))

-- one of the scenes that were tried, with its step, and no other has less
pub record IsLeastOf (film : FilmData) (set : ℕ) (tried : List ℕ) (best : Choice) : Type 0 where
  pub among : Contains tried best.scene
  pub step : best.step ≡ step_cost film set best.scene
  pub least : (other : ℕ) → Contains tried other → NoMore film set best.scene other

-- that one, where some were tried
abbrev pub IsLeastAmong : FilmData → ℕ → List ℕ → Option Choice → Type 0
IsLeastAmong film set tried None = tried ≡ []
IsLeastAmong film set tried (Some best) = IsLeastOf film set tried best

module _ (film : FilmData) (set : ℕ) (tried : List ℕ) (found : Choice) (is : found.step ≡ step_cost film set found.scene) where
  alone : tried ≡ [] → IsLeastOf film set (tried ++ found.scene ∷ []) found
  alone none = record {
    among = Contains-push tried found.scene;
    step = is;
    least = λ other there. elim (Contains-push_cases tried found.scene other there) [
      | inl before ↦ absurd (contains_none other (subst (λ (xs : List ℕ). Contains xs other) none before))
      | inr same ↦ inr (ap (step_cost film set) same, omega (arith, same))
    ];
  }

  takes_found : (best : Choice) → IsLeastOf film set tried best → found.step < best.step → IsLeastOf film set (tried ++ found.scene ∷ []) found
  takes_found best least less = record {
    among = Contains-push tried found.scene;
    step = is;
    least = λ other there. elim (Contains-push_cases tried found.scene other there) [
      | inl before ↦ inl (elim (least.least other before) [
        | inl more ↦ omega (arith, is, least.step, less, more)
        | inr equal ↦ omega (arith, is, least.step, less, equal.0)
      ])
      | inr same ↦ inr (ap (step_cost film set) same, omega (arith, same))
    ];
  }

  keeps_best : (best : Choice) → IsLeastOf film set tried best → best.step ≤ found.step → best.scene < found.scene
      → IsLeastOf film set (tried ++ found.scene ∷ []) best
  keeps_best best least le before = record {
    among = Contains-append_left tried (found.scene ∷ []) best.scene least.among;
    step = least.step;
    least = λ other there. elim (Contains-push_cases tried found.scene other there) [
      | inl earlier ↦ least.least other earlier
      | inr same ↦ subst (λ (x : ℕ). NoMore film set best.scene x) same against
    ];
  }
    where
      against : NoMore film set best.scene found.scene
      against = elim (cases_lt (step_cost film set best.scene) (step_cost film set found.scene)) [
        | inl less ↦ inl less
        | inr other ↦ inr (omega (arith, other, le, is, least.step), omega (arith, before))
      ]

  pub least_tries : (best : Option Choice) (result : Choice) (left : List ℕ) → tried ++ found.scene ∷ left ≡ members (ready film set)
      → MatchOption best (result ≡ found) (λ b. MatchBool (nat_lt found.step b.step) (result ≡ found) (result ≡ b))
      → IsLeastAmong film set tried best → IsLeastAmong film set (tried ++ found.scene ∷ []) (Some result)
  least_tries None result left all taken none = subst (IsLeastOf film set (tried ++ found.scene ∷ [])) (sym taken) (alone none)
  least_tries (Some best) result left all taken least = elim (cases_lt found.step best.step) [
    | inl less ↦ subst (IsLeastOf film set (tried ++ found.scene ∷ [])) (sym (rw (lt-ltb found.step best.step less) at taken)) (takes_found best least less)
    | inr le ↦ subst (IsLeastOf film set (tried ++ found.scene ∷ [])) (sym (rw (le-ltb found.step best.step le) at taken))
        (keeps_best best least le (lesser_before (ready film set) found.scene tried left all best.scene least.among))
  ]

module _ (film : FilmData) (set : ℕ) (tried : List ℕ) (all : tried ≡ members (ready film set)) where
  -- all were tried
  pub least_of_all : (best : Choice) → IsSet (ready film set) → IsLeastOf film set tried best → IsLeastStep film set best.scene
  least_of_all best ready_set least = record {
    is_ready = has_from_members (ready film set) best.scene (subst (λ (xs : List ℕ). Contains xs best.scene) all least.among);
    least = λ other there. least.least other (subst (λ (xs : List ℕ). Contains xs other) (sym all) (Contains-members (ready film set) other ready_set there));
  }

  -- and there were none
  pub none_of_all : IsFilm film → IsSet set → IsSet (ready film set) → tried ≡ [] → set ≡ 0
  none_of_all limits is ready_set none = elim (cases_eq set 0) [
    | inl empty ↦ empty
    | inr some ↦ absurd (let one = some_ready film set limits is some in
        contains_none one.0 (subst (λ (xs : List ℕ). Contains xs one.0) (sym all ∙ none) (Contains-members (ready film set) one.0 ready_set one.1)))
  ]
