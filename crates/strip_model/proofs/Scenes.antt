-- A scene or an actor at its number, as the code has it and as contracts see it.
use Rattle.std.proofs.Common.{◌≡◌, ℕ, ◌<◌, ◌≤◌, List, length, get_or, map, All, slice_index, sym, ap, ◌∙◌, subst, arith}
use Rattle.std.proofs.lemmas.List.{get_or-map, length-map}
use Rattle.strip_model.specs.declared.scene.Scene.{Scene}
use Rattle.strip_model.specs.declared.scene.Actor.{Actor}
use Rattle.strip_model.specs.Data.{SceneData, ActorData, IsScene, IsActor}
use Rattle.strip_model.specs.Instance.{scene_data, actor_data}

mapped_at : {X Y : Type 0} (f : X → Y) (xs : List X) (ys : List Y) (i : ℕ) (d : X) → map f xs ≡ ys → i < length ys
    → get_or ys i (f d) ≡ f (get_or xs i d)
mapped_at f xs ys i d same lt =
    let short : i < length xs = omega (arith, ap length same, length-map xs f) in
    ap (λ zs. get_or zs i (f d)) (sym same) ∙ get_or-map f xs i d (f d) short

number_at : {X Y : Type 0} (f : X → Y) (value : Y → ℕ) (xs : List X) (ys : List Y) (i : ℕ) (d : X) → map f xs ≡ ys → i < length ys
    → slice_index (map value ys) i ≡ value (f (get_or xs i d))
number_at f value xs ys i d same lt =
    get_or-map value ys i (f d) 0 lt ∙ ap value (mapped_at f xs ys i d same lt)

pub cast_at : (scenes : List Scene) (seen : List SceneData) (i : ℕ) (d : Scene) → map scene_data scenes ≡ seen → i < length seen
    → slice_index (map (λ scene. scene.cast) seen) i ≡ (get_or scenes i d).cast
cast_at = number_at scene_data (λ scene. scene.cast)

pub days_at : (scenes : List Scene) (seen : List SceneData) (i : ℕ) (d : Scene) → map scene_data scenes ≡ seen → i < length seen
    → slice_index (map (λ scene. scene.days) seen) i ≡ (get_or scenes i d).days
days_at = number_at scene_data (λ scene. scene.days)

pub rate_at : (actors : List Actor) (seen : List ActorData) (i : ℕ) (d : Actor) → map actor_data actors ≡ seen → i < length seen
    → slice_index (map (λ actor. actor.rate) seen) i ≡ (get_or actors i d).rate
rate_at = number_at actor_data (λ actor. actor.rate)

pub hold_at : (actors : List Actor) (seen : List ActorData) (i : ℕ) (d : Actor) → map actor_data actors ≡ seen → i < length seen
    → slice_index (map (λ actor. actor.hold) seen) i ≡ (get_or actors i d).hold
hold_at = number_at actor_data (λ actor. actor.hold)

pub few_days : (n : ℕ) (scenes : List Scene) (seen : List SceneData) (i : ℕ) (d : Scene) → map scene_data scenes ≡ seen → i < length seen
    → All (IsScene n) seen → (get_or scenes i d).days ≤ 99
few_days n scenes seen i d same lt each =
    let is : IsScene n (scene_data (get_or scenes i d)) = subst (IsScene n) (mapped_at scene_data scenes seen i d same lt) (each i (scene_data d) lt) in
    is.days.1

-- an actor keeps the limits
pub actor_is : (actors : List Actor) (seen : List ActorData) (i : ℕ) (d : Actor) → map actor_data actors ≡ seen → i < length seen
    → All IsActor seen → IsActor (actor_data (get_or actors i d))
actor_is actors seen i d same lt each = subst IsActor (mapped_at actor_data actors seen i d same lt) (each i (actor_data d) lt)
