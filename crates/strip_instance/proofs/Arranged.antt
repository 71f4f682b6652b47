-- The arranged instance keeps the limits, and its rows are those of the instance in another order.
use Rattle.std.proofs.Common.{◌≡◌, ◌≢◌, ℕ, ◌<◌, List, [], ◌∷◌, length, get_or, map, All, codes, sym, ap, ◌∙◌, subst, refl, inl, inr, arith}
use Rattle.std.specs.List.{AllPairs}
use Rattle.std.proofs.lemmas.Bool.{cases_lt}
use Rattle.std.proofs.lemmas.List.{get_or-map, length-map}
use Rattle.std.proofs.lemmas.List.Elements.{All-head, All-map, All-tail}
use Rattle.strip_model.specs.declared.pair.Pair.{Pair}
use Rattle.strip_model.specs.Order.{IsOrder}
use Rattle.strip_model.specs.Pairs.{FitPairs, IsKnownPair}
use Rattle.strip_model.proofs.Counts.{length-order}
use Rattle.strip_model.specs.Data.{InstanceData, IsInstance, IsScene, SceneData}
use Rattle.strip_text.specs.Rows.{field_of}
use Rattle.strip_instance.specs.Field.{is_scene_name}
use Rattle.strip_instance.specs.Arranged.{arranged, no_scene, pair_in, place_in, scene_in}
use Rattle.strip_instance.specs.Canonical.{names_of, pair_fields}
use Rattle.strip_instance.proofs.Places.{apart_at, at_place, fit_places, place_below}
use Rattle.strip_instance.proofs.back.TextNames.{HasTextNames, IsTextName}

-- different numbers have different names
names_apart : (scenes : List SceneData) → AllPairs (λ a b. a.name ≢ b.name) scenes → (a b : ℕ) → a < length scenes → b < length scenes → a ≢ b
    → (scene_in scenes a).name ≢ (scene_in scenes b).name
names_apart scenes differ a b one two other = elim (cases_lt a b) [
  | inl less ↦ differ a b no_scene less two
  | inr more ↦ λ same. differ b a no_scene (omega (arith, more, other)) one (sym same)
]

module _ (inst : InstanceData) (order : List ℕ) (is_order : IsOrder (length inst.scenes) order) where
  abbrev in_order : List SceneData
  in_order = map (scene_in inst.scenes) order

  counted : length in_order ≡ length inst.scenes
  counted = length-map order (scene_in inst.scenes) ∙ length-order (length inst.scenes) order is_order

  -- the scene at a place
  at_number : (place : ℕ) (d : SceneData) → place < length order → get_or in_order place d ≡ scene_in inst.scenes (get_or order place 0)
  at_number place d within = get_or-map (scene_in inst.scenes) order place 0 d within

  pub arranged_is : IsInstance inst → IsInstance (arranged inst order)
  arranged_is is = record {
    scene_count = (omega (arith, counted, is.scene_count.0), omega (arith, counted, is.scene_count.1));
    actor_count = is.actor_count;
    scenes = All-map (IsScene (length inst.actors)) (scene_in inst.scenes) order (λ k d within. is.scenes (get_or order k d) no_scene (is_order.known k d within));
    actors = is.actors;
    scene_names = λ i j d lt within.
        let second : j < length order = omega (arith, within, length-map order (scene_in inst.scenes)) in
        let first : i < length order = omega (arith, lt, second) in
        let other = apart_at (length inst.scenes) order is_order i j lt second in
        let apart = names_apart inst.scenes is.scene_names (get_or order i 0) (get_or order j 0) (is_order.known i 0 first) (is_order.known j 0 second) other in
        λ same. apart (ap (λ (scene : SceneData). scene.name) (sym (at_number i d first)) ∙ same ∙ ap (λ (scene : SceneData). scene.name) (at_number j d second));
    actor_names = is.actor_names;
    pairs = subst (λ n. FitPairs n (map (pair_in order) inst.pairs)) (sym counted) (fit_places (length inst.scenes) order is_order inst.pairs is.pairs);
  }

  pub arranged_names : HasTextNames inst → HasTextNames (arranged inst order)
  arranged_names names = record {
    scenes = All-map (λ (scene : SceneData). IsTextName is_scene_name scene.name) (scene_in inst.scenes) order
        (λ k d within. names.scenes (get_or order k d) no_scene (is_order.known k d within));
    actors = names.actors;
  }

  -- a scene has its name at its place
  name_at_place : (scene : ℕ) → scene < length inst.scenes → field_of (names_of (arranged inst order)) (place_in order scene) ≡ field_of (names_of inst) scene
  name_at_place scene known =
      let place = place_in order scene in
      let within : place < length order = omega (arith, place_below (length inst.scenes) order is_order scene known, length-order (length inst.scenes) order is_order) in
      get_or-map (λ (s : SceneData). s.name) in_order place no_scene [] (omega (arith, within, length-map order (scene_in inst.scenes)))
      ∙ ap (λ (s : SceneData). s.name) (at_number place no_scene within ∙ ap (scene_in inst.scenes) (at_place (length inst.scenes) order is_order scene known))
      ∙ sym (get_or-map (λ (s : SceneData). s.name) inst.scenes scene no_scene [] known)

  -- so the rows of the pairs are the same
  pub rows_of_pairs : (pairs : List Pair) → All (IsKnownPair (length inst.scenes)) pairs
      → map (pair_fields (names_of inst)) pairs ≡ map (pair_fields (names_of (arranged inst order))) (map (pair_in order) pairs)
  rows_of_pairs [] known = refl
  rows_of_pairs (pair ∷ pairs) known =
      let its : IsKnownPair (length inst.scenes) pair = All-head (IsKnownPair (length inst.scenes)) pair pairs known in
      let first = name_at_place pair.first its.0 in
      let second = name_at_place pair.then its.1 in
      let later = rows_of_pairs pairs (All-tail (IsKnownPair (length inst.scenes)) pair pairs known) in
      λ i. (codes "before" ∷ sym first i ∷ sym second i ∷ []) ∷ later i
