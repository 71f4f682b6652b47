-- The look-ahead of a set is at most the cost of finishing it.
use Rattle.std.proofs.Common.{◌≡◌, ℕ, ◌+◌, ◌≤◌, true, false, List, [], ◌∷◌, length, Contains, inl, inr, ap, ◌∙◌, subst, arith}
use Rattle.std.proofs.lemmas.Bool.{cases_Bool, cases_eq}
use Rattle.strip_mask.specs.Set.{LiesBelow, has, without, members}
use Rattle.strip_mask.proofs.ByMembers.{has-empty, empty_from}
use Rattle.strip_mask.proofs.Below.{is_set_below, LiesBelow-without}
use Rattle.strip_mask.proofs.Members.{Contains-members, members-empty}
use Rattle.strip_mask.proofs.Lists.{contains_none}
use Rattle.strip_film.specs.Film.{IsFilm, LiesIn}
use Rattle.strip_film.specs.Shoot.{step_cost}
use Rattle.strip_film.specs.Finish.{IsAtMostFinish, steps_cost}
use Rattle.strip_film.specs.Rules.{Rules, BoundsFinish, BeginLeast, FirstsAreReady}
use Rattle.strip_lines.specs.Lines.{least_step, ahead}
use Rattle.strip_film.proofs.Lists.{ready_there}
use Rattle.strip_mask.proofs.Least.{least_at_le}

pub least_step_le : (rules : Rules) (set none : ℕ) (scenes : List ℕ) (scene : ℕ) → Contains scenes scene
    → least_step rules set none scenes ≤ step_cost rules.film set scene + rules.bound (without set scene)
least_step_le rules set none [] scene there = absurd (contains_none scene there)
least_step_le rules set none (x ∷ xs) scene there = least_at_le (λ s. step_cost rules.film set s + rules.bound (without set s)) x xs scene there

module _ (rules : Rules) (is : IsFilm rules.film) (bounds : BoundsFinish rules) (begin : BeginLeast rules) (ready_firsts : FirstsAreReady rules)
    (set : ℕ) (lies : LiesIn rules.film set) where
  firsts_lie : LiesBelow (length rules.film.casts) (rules.firsts set)
  firsts_lie i member = lies i (ready_there rules.film set i (ready_firsts set i lies member))

  -- nothing left has no firsts
  no_firsts : set ≡ 0 → rules.firsts set ≡ 0
  no_firsts none = empty_from (rules.firsts set) (λ i. elim (cases_Bool (has (rules.firsts set) i)) [
    | inl member ↦ absurd (let e : has 0 i ≡ true = subst (λ (q : ℕ). has q i ≡ true) none (ready_there rules.film set i (ready_firsts set i lies member)) in
        let f : has 0 i ≡ false = has-empty i in cc)
    | inr absent ↦ absent
  ])

  pub ahead_is_true : IsAtMostFinish rules.film set (ahead rules set)
  ahead_is_true scenes each = elim (cases_eq set 0) [
    | inl none ↦ (let same : least_step rules set (rules.bound set) (members (rules.firsts set)) ≡ rules.bound set
        = ap (least_step rules set (rules.bound set)) (ap members (no_firsts none) ∙ members-empty) in
        omega (arith, same, bounds set lies scenes each))
    | inr some ↦ (let first = begin set lies some in
        let rest : ℕ = without set first.0 in
        let among : Contains (members (rules.firsts set)) first.0
        = Contains-members (rules.firsts set) first.0 (is_set_below (length rules.film.casts) (rules.firsts set) is.scene_count.1 firsts_lie) first.1 in
        let step : least_step rules set (rules.bound set) (members (rules.firsts set)) ≤ step_cost rules.film set first.0 + rules.bound rest
        = least_step_le rules set (rules.bound set) (members (rules.firsts set)) first.0 among in
        let later : rules.bound rest ≤ steps_cost rules.film rest first.2.0
        = bounds rest (LiesBelow-without (length rules.film.casts) set first.0 lies) first.2.0 (first.2.1.0.1, first.2.1.1) in
        let least : steps_cost rules.film set (first.0 ∷ first.2.0) ≤ steps_cost rules.film set scenes = first.2.2 scenes each in
        omega (arith, step, later, least, bounds set lies scenes each))
  ]
