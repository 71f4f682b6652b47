-- Sets of places of a group, and classes of scenes.
use Rattle.std.proofs.Common.{◌≡◌, ℕ, ◌+◌, ◌<◌, Bool, true, false, not, ◌&&◌, ◌||◌, List, [], ◌∷◌, ◌++◌, length, slice_index, refl, sym, ap, ◌∙◌, subst, inl, inr, arith}
use Rattle.std.proofs.lemmas.Bool.{cases_eq, cases_lt, false≢true, false_from_ne_true, cases_Bool}
use Rattle.std.proofs.lemmas.List.{get_or_past}
use Rattle.strip_mask.specs.Set.{IsSet, LiesBelow, has, members, size, union, with, without}
use Rattle.strip_mask.proofs.ByMembers.{has-empty, has-union, has-with, has-with_same, has-with_other, same_has, with-without, empty_has}
use Rattle.strip_group.specs.Group.{GroupData}
use Rattle.strip_group.specs.Places.{actor_at, pick}
use Rattle.strip_group.proofs.Places.{has_pick, pick-without}
use Rattle.strip_arrivals.specs.Arrivals.{actors_of, is_without}
use Rattle.strip_mask.proofs.Members.{Contains-members, has_from_members}
use Rattle.strip_arrivals.proofs.Newcomers.{actors_more}
use Rattle.strip_arrivals.proofs.Casts.{has_listed, is_none, listed_has, without_one}

-- ---- a scene more

module _ (casts : List ℕ) (actor scene scenes : ℕ) (told : (s : ℕ) → s < scene → has scenes s ≡ has (slice_index casts s) actor) where
  pub works_with : has (slice_index casts scene) actor ≡ true → (s : ℕ) → s < scene + 1 → has (with scenes scene) s ≡ has (slice_index casts s) actor
  works_with works s lt = elim (cases_eq scene s) [
    | inl is ↦ subst (λ (k : ℕ). has (with scenes scene) k ≡ has (slice_index casts k) actor) is (has-with_same scenes scene ∙ sym works)
    | inr other ↦ has-with_other scenes scene s other ∙ told s (omega (arith, lt, other))
  ]

  pub works_past : LiesBelow scene scenes → has (slice_index casts scene) actor ≡ false → (s : ℕ) → s < scene + 1 → has scenes s ≡ has (slice_index casts s) actor
  works_past lies lacks s lt = elim (cases_eq scene s) [
    | inl is ↦ subst (λ (k : ℕ). has scenes k ≡ has (slice_index casts k) actor) is (false_from_ne_true (has scenes scene) (λ there. (let below = lies scene there in omega
        (arith, below))) ∙ sym lacks)
    | inr other ↦ told s (omega (arith, lt, other))
  ]

-- past the last scene nobody works
pub works_whole : (casts : List ℕ) (actor scenes : ℕ) → ((s : ℕ) → s < length casts → has scenes s ≡ has (slice_index casts s) actor) → LiesBelow (length casts) scenes
    → (s : ℕ) → has scenes s ≡ has (slice_index casts s) actor
works_whole casts actor scenes told lies s = elim (cases_lt s (length casts)) [
  | inl lt ↦ told s lt
  | inr past ↦ false_from_ne_true (has scenes s) (λ there. (let below = lies s there in omega (arith, below, past)))
      ∙ sym (ap (λ (cast : ℕ). has cast actor) (get_or_past casts s 0 past) ∙ has-empty actor)
]

-- one actor more
pub scenes_more : (film : GroupData) (actors : List ℕ) (actor scenes plays more scene : ℕ) → has scenes scene ≡ not (is_without film (actors_of actors) scene)
    → has plays scene ≡ has (slice_index film.casts scene) actor → more ≡ union scenes plays
    → has more scene ≡ not (is_without film (actors_of (actors ++ actor ∷ [])) scene)
scenes_more film actors actor scenes plays more scene before works is =
    ap (λ (s : ℕ). has s scene) is ∙ has-union scenes plays scene ∙ (λ i. before i || works i)
    ∙ either (is_without film (actors_of actors) scene) (has (slice_index film.casts scene) actor)
    ∙ ap not (sym (without_one film (actors_of actors) actor scene))
    ∙ ap (λ (s : ℕ). not (is_without film s scene)) (same_has (with (actors_of actors) actor) (actors_of (actors ++ actor ∷ [])) (λ i.
    has-with (actors_of actors) actor i ∙ sym (actors_more actors actor i)))
  where
    either : (a b : Bool) → (not a || b) ≡ not (a && not b)
    either true true = refl
    either true false = refl
    either false b = refl

pub scenes_none : (film : GroupData) (scene : ℕ) → has 0 scene ≡ not (is_without film (actors_of []) scene)
scenes_none film scene = has-empty scene ∙ sym (ap not (is_none film 0 scene (λ i works there. empty_has i there)))

-- the actors of the members of a set are the set
pub actors_members : (set : ℕ) (actors : List ℕ) → actors ≡ members set → IsSet set → actors_of actors ≡ set
actors_members set actors is small = ap actors_of is ∙ same_has (actors_of (members set)) set (λ i. by_list i)
  where
    by_list : (i : ℕ) → has (actors_of (members set)) i ≡ has set i
    by_list i = elim (cases_Bool (has set i)) [
      | inl there ↦ has_listed (members set) i (Contains-members set i small there) ∙ sym there
      | inr missing ↦ false_from_ne_true (has (actors_of (members set)) i) (λ found. false≢true (sym missing ∙ has_from_members set i (listed_has (members set) i found))) ∙ sym missing
    ]

-- ---- the places of a set

module _ (group : ℕ) where
  pub pick-split : (set place : ℕ) → place < size group → has set place ≡ true → pick group set ≡ with (pick group (without set place)) (actor_at group place)
  pick-split set place lt there =
      sym (with-without (pick group set) (actor_at group place) (has_pick group set place lt there))
      ∙ ap (λ (s : ℕ). with s (actor_at group place)) (sym (pick-without group set place lt))
