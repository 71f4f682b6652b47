-- What follows a path in the orders that begin with it.
use Rattle.std.proofs.Common.{◌≡◌, ℕ, true, false, List, [], ◌∷◌, ◌++◌, Contains, ◌⊎◌, inl, inr, sym, ap, ◌∙◌, subst, append_assoc}
use Rattle.std.proofs.Math.Nat.{le_of_eq}
use Rattle.std.proofs.lemmas.Bool.{cases_eq}
use Rattle.std.proofs.lemmas.List.{append-nil}
use Rattle.strip_mask.specs.Set.{IsSet, has, members, without}
use Rattle.strip_mask.proofs.ByMembers.{IsSet-minus, has-empty}
use Rattle.strip_mask.proofs.Members.{Contains-members}
use Rattle.strip_model.specs.Film.{FilmData}
use Rattle.strip_model.specs.Order.{IsKeptOrder}
use Rattle.strip_model.specs.Pay.{pay_of}
use Rattle.strip_model.proofs.Before.{before-itself}
use Rattle.strip_model.proofs.Lists.{contains_none}
use Rattle.strip_film.specs.Film.{IsFilm, all_scenes}
use Rattle.strip_film.specs.Finish.{AreFirsts, EachOnce, rest_after}
use Rattle.strip_film.specs.Path.{IsPath, PathData}
use Rattle.strip_film.specs.Shoot.{behind, ready}
use Rattle.strip_film.proofs.ByPairs.{some_ready}
use Rattle.strip_film.proofs.Lists.{AllOnce-from_ready, ready_there}
use Rattle.strip_film.proofs.Orders.{kept_from_ready, ready_from_order}
use Rattle.strip_film.proofs.Paths.{rest_set}
use Rattle.strip_film.proofs.StepSum.{steps_are_pay}
use Rattle.test_search.specs.Beginning.{BeginsWith, IsFirstCheapestFrom}

-- the scenes behind the first ones of a list, by what the first ones leave
AreFirsts-behind : (firsts : ℕ → ℕ) (set : ℕ) (scenes later : List ℕ) → AreFirsts firsts set (scenes ++ later) → AreFirsts firsts (rest_after set scenes) later
AreFirsts-behind firsts set [] later are = are
AreFirsts-behind firsts set (s ∷ scenes) later are = AreFirsts-behind firsts (without set s) scenes later are.1

module _ (film : FilmData) (limits : IsFilm film) (path : PathData) (is : IsPath film path) where
  ready_set : IsSet (ready film path.rest)
  ready_set = IsSet-minus path.rest (behind film.pairs path.rest) (rest_set film path is limits)

  -- a ready scene is among the ready ones
  pub among_ready : (scene : ℕ) → has (ready film path.rest) scene ≡ true → Contains (members (ready film path.rest)) scene
  among_ready scene member = Contains-members (ready film path.rest) scene ready_set member

  -- where none is ready, nothing remains
  pub nothing_remains : members (ready film path.rest) ≡ [] → path.rest ≡ 0
  nothing_remains none = elim (cases_eq path.rest 0) [
    | inl empty ↦ empty
    | inr some ↦ absurd (let one = some_ready film path.rest limits (rest_set film path is limits) some in
        contains_none one.0 (subst (λ (xs : List ℕ). Contains xs one.0) none (among_ready one.0 one.1)))
  ]

  -- an order that keeps the pairs and begins with the path's scenes is these, where nothing remains, or goes on with a ready scene
  pub goes_on : (other : List ℕ) → IsKeptOrder film other → BeginsWith path.scenes other
      → ((other ≡ path.scenes) × (path.rest ≡ 0)) ⊎ ((scene : ℕ) × (has (ready film path.rest) scene ≡ true) × BeginsWith (path.scenes ++ scene ∷ []) other)
  goes_on other kept ([], e) =
      let same : other ≡ path.scenes = e ∙ append-nil path.scenes in
      inl (same, is.left ∙ sym (ap (rest_after (all_scenes film)) same) ∙ (ready_from_order film limits other kept).1)
  goes_on other kept (scene ∷ later, e) =
      let firsts : AreFirsts (ready film) (all_scenes film) (path.scenes ++ scene ∷ later)
      = subst (AreFirsts (ready film) (all_scenes film)) e (ready_from_order film limits other kept).0 in
      let next : has (ready film (rest_after (all_scenes film) path.scenes)) scene ≡ true = (AreFirsts-behind (ready film) (all_scenes film) path.scenes (scene ∷ later) firsts).0 in
      inr (scene, subst (λ (q : ℕ). has (ready film q) scene ≡ true) (sym is.left) next, (later, e ∙ sym (append_assoc path.scenes (scene ∷ []) later)))

  -- ---- a path after which nothing remains

  module _ (none : path.rest ≡ 0) where
    each : EachOnce film (all_scenes film) path.scenes
    each = (is.remained, sym is.left ∙ none)

    pub paid_is_pay : path.paid ≡ pay_of film path.scenes
    paid_is_pay = is.steps ∙ steps_are_pay film limits path.scenes (AllOnce-from_ready film (all_scenes film) path.scenes each)

    -- it is the one order that begins with its scenes
    pub only_order : IsFirstCheapestFrom film path.scenes path.scenes
    only_order = record {
      is_kept = kept_from_ready film limits path.scenes each;
      begins = ([], sym (append-nil path.scenes));
      least = λ other kept begins. le_of_eq (ap (pay_of film) (sym (alone other kept begins)));
      first = λ other kept begins equal before. before-itself path.scenes (rw (alone other kept begins) at before);
    }
      where
        alone : (other : List ℕ) → IsKeptOrder film other → BeginsWith path.scenes other → other ≡ path.scenes
        alone other kept begins = elim (goes_on other kept begins) [
          | inl same ↦ same.0
          | inr (scene, next, later) ↦ absurd (let e : has path.rest scene ≡ true = ready_there film path.rest scene next in
              let f : has path.rest scene ≡ false = subst (λ (q : ℕ). has q scene ≡ false) (sym none) (has-empty scene) in cc)
        ]
