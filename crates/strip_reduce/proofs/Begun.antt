-- What a reduction begins with.
use Rattle.std.proofs.Common.{◌≡◌, ℕ, ◌+◌, ◌<◌, ◌≤◌, List, [], ◌∷◌, ◌++◌, length, map, All, refl, sym, ap, ◌∙◌, subst, arith, add-one}
use Rattle.std.proofs.lemmas.List.{length-map, map-append}
use Rattle.std.proofs.lemmas.List.Elements.{All-map, All-weaker}
use Rattle.strip_mask.specs.Set.{LiesBelow, numbers_below}
use Rattle.strip_model.specs.Pairs.{FitPairs}
use Rattle.strip_film.specs.Film.{IsFilmUpTo}
use Rattle.strip_model.specs.Data.{ActorData, InstanceData, IsActor, IsInstance, IsScene, SceneData}
use Rattle.strip_model.specs.FilmOf.{film_of}
use Rattle.strip_model.proofs.Small.{sum_most}

-- ---- the film of an instance keeps the limits

pub is_film_of : (inst : InstanceData) → IsInstance inst → IsFilmUpTo 200 (film_of inst)
is_film_of inst is =
    let scenes : length (map (λ (scene : SceneData). scene.cast) inst.scenes) ≡ length inst.scenes = length-map inst.scenes (λ scene. scene.cast) in
    let actors : length (map (λ (actor : ActorData). actor.rate) inst.actors) ≡ length inst.actors = length-map inst.actors (λ actor. actor.rate) in
    record {
      scene_count = (omega (arith, is.scene_count.0), omega (arith, is.scene_count.1));
      day_count = length-map inst.scenes (λ (scene : SceneData). scene.days) ∙ sym scenes;
      actor_count = omega (arith, is.actor_count);
      hold_count = length-map inst.actors (λ (actor : ActorData). actor.hold) ∙ sym actors;
      some_days = All-map (λ days. 0 < days) (λ (scene : SceneData). scene.days) inst.scenes (All-weaker (IsScene (length inst.actors)) (λ scene. 0 < scene.days) (λ scene one. one.days.0) inst.scenes is.scenes);
      day_sum = sum_most (λ (scene : SceneData). scene.days) inst.scenes 200 99 is.scene_count.1 (All-weaker (IsScene (length inst.actors)) (λ scene. scene.days ≤ 99) (λ scene one. one.days.1) inst.scenes is.scenes);
      rate_sum = sum_most (λ (actor : ActorData). actor.rate) inst.actors 64 1000000000 is.actor_count (All-weaker IsActor (λ actor. actor.rate ≤ 1000000000) (λ actor one. one.rate) inst.actors is.actors);
      hold_sum = sum_most (λ (actor : ActorData). actor.hold) inst.actors 64 1000000000 is.actor_count (All-weaker IsActor (λ actor. actor.hold ≤ 1000000000) (λ actor one. one.hold) inst.actors is.actors);
      casts = subst (λ (n : ℕ). All (LiesBelow n) (map (λ (scene : SceneData). scene.cast) inst.scenes)) (sym actors)
          (All-map (LiesBelow (length inst.actors)) (λ (scene : SceneData). scene.cast) inst.scenes
          (All-weaker (IsScene (length inst.actors)) (λ scene. LiesBelow (length inst.actors) scene.cast) (λ scene one. one.cast) inst.scenes is.scenes));
      pairs = subst (λ (n : ℕ). FitPairs n inst.pairs) (sym scenes) is.pairs;
    }

-- ---- the lists of the film, as the code makes them

-- a field of what is seen is a field of what is there
pub seen_through : {X Y Z : Type 0} (f : X → Y) (g : Y → Z) (xs : List X) (ys : List Y) → map f xs ≡ ys → map (λ x. g (f x)) xs ≡ map g ys
seen_through {X} {Y} {Z} f g xs ys seen = through xs ∙ ap (map g) seen
  where
    through : (zs : List X) → map (λ x. g (f x)) zs ≡ map g (map f zs)
    through [] = refl
    through (z ∷ zs) = ap (λ (ws : List Z). g (f z) ∷ ws) (through zs)

pub singles_none : [] ≡ map (λ (scene : ℕ). scene ∷ []) (numbers_below 0)
unfolding numbers_below
singles_none = refl

one_more : (n : ℕ) → numbers_below (n + 1) ≡ numbers_below n ++ n ∷ []
unfolding numbers_below
one_more n = ap numbers_below (add-one n)

-- a list of one scene more
pub singles_more : (lists : List (List ℕ)) (n : ℕ) → lists ≡ map (λ scene. scene ∷ []) (numbers_below n)
    → lists ++ (n ∷ []) ∷ [] ≡ map (λ scene. scene ∷ []) (numbers_below (n + 1))
singles_more lists n so_far =
    ap (λ (ls : List (List ℕ)). ls ++ (n ∷ []) ∷ []) so_far ∙ sym (map-append (λ (scene : ℕ). scene ∷ []) (numbers_below n) (n ∷ [])) ∙ ap (map (λ (scene : ℕ). scene ∷ [])) (sym (one_more n))
