-- What the best line of a set leads on to, by the open firsts so far.
use Rattle.std.proofs.Common.{◌≡◌, ℕ, ◌+◌, ◌<◌, Bool, List, [], ◌∷◌, ◌++◌, Contains, inl, inr, subst, sym}
use Rattle.std.proofs.lemmas.List.Elements.{Contains-append_left, Contains-push, Contains-push_cases}
use Rattle.strip_mask.specs.Set.{IsSet, members, without}
use Rattle.strip_mask.proofs.Members.{Contains-members, has_from_members}
use Rattle.strip_model.proofs.Lists.{contains_none}
use Rattle.strip_film.specs.declared.shared.Line.{Line}
use Rattle.strip_film.specs.Rules.{Rules}
use Rattle.strip_film.specs.Shoot.{step_cost}
use Rattle.strip_trim.specs.Best.{best_bound}
use Rattle.strip_trim.specs.Marks.{Follows, IsBestOf, MarksMore}
use Rattle.strip_trim.proofs.Marking.{marked_none}

module _ (rules : Rules) (lines : List Line) (set : ℕ) where
  -- the step of the scene with the static bound of what then remains is below the bound of the set's best line
  abbrev pub IsShort : ℕ → Type 0
  IsShort scene = step_cost rules.film set scene + rules.bound (without set scene) < best_bound lines set

  -- the line at the place is the best one of what remains after one of these scenes
  abbrev pub FollowsBy : List ℕ → ℕ → Type 0
  FollowsBy scenes place = (scene : ℕ) × Contains scenes scene × IsShort scene × IsBestOf lines (without set scene) place

  pub follows_none : (marks : List Bool) → MarksMore marks marks (FollowsBy [])
  follows_none marks = marked_none marks (FollowsBy []) (λ place follows. contains_none follows.0 follows.1)

  module _ (before marks : List Bool) (done : List ℕ) (scene : ℕ) (so_far : MarksMore before marks (FollowsBy done)) where
    earlier : (place : ℕ) → FollowsBy done place → FollowsBy (done ++ scene ∷ []) place
    earlier place (first, there, short, best) = (first, Contains-append_left done (scene ∷ []) first there, short, best)

    pub follows_if : (more : List Bool) (Below : Type 0) → (Below → IsShort scene) → (IsShort scene → Below)
        → MarksMore marks more (λ place. Below × IsBestOf lines (without set scene) place) → MarksMore before more (FollowsBy (done ++ scene ∷ []))
    follows_if more Below short_where below_where next place = (
      λ mark. elim ((next place).0 mark) [
        | inl old ↦ elim ((so_far place).0 old) [ inl was ↦ inl was | inr follows ↦ inr (earlier place follows) ]
        | inr (below, best) ↦ inr (scene, Contains-push done scene, short_where below, best)
      ],
      λ some. elim some [
        | inl was ↦ (next place).1 (inl ((so_far place).1 (inl was)))
        | inr (first, there, is_short, best) ↦ elim (Contains-push_cases done scene first there) [
          | inl old ↦ (next place).1 (inl ((so_far place).1 (inr (first, old, is_short, best))))
          | inr now ↦ (next place).1 (inr (
            below_where (subst IsShort (sym now) is_short),
            subst (λ (s : ℕ). IsBestOf lines (without set s) place) (sym now) best,
          ))
        ]
      ],
    )

  -- after all firsts what follows is marked
  pub follows_all : (before marks : List Bool) (done : List ℕ) → IsSet (rules.firsts set) → done ≡ members (rules.firsts set) → rules.bound set < best_bound lines set
      → MarksMore before marks (FollowsBy done) → MarksMore before marks (Follows rules lines set)
  follows_all before marks done is_set all above so_far place = (
    λ mark. elim ((so_far place).0 mark) [
      | inl was ↦ inl was
      | inr (scene, there, short, best) ↦ inr (
        scene,
        record {
          above = above;
          first = has_from_members (rules.firsts set) scene (subst (λ (xs : List ℕ). Contains xs scene) all there);
          short = short;
        },
        best,
      )
    ],
    λ some. elim some [
      | inl was ↦ (so_far place).1 (inl was)
      | inr (scene, leads, best) ↦ (so_far place).1 (inr (
        scene,
        subst (λ (xs : List ℕ). Contains xs scene) (sym all) (Contains-members (rules.firsts set) scene is_set leads.first),
        leads.short,
        best,
      ))
    ],
  )

  -- where the bound is no more than the static one, nothing follows
  pub follows_nothing : (marks : List Bool) → (rules.bound set < best_bound lines set → ⊥) → MarksMore marks marks (Follows rules lines set)
  follows_nothing marks not_above = marked_none marks (Follows rules lines set) (λ place follows. not_above follows.1.above)
