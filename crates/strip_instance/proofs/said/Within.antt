-- What a text says is within the limits of instances.
use Rattle.std.proofs.Common.{◌≡◌, ◌≢◌, ◌<◌, ◌≤◌, ◌+◌, ℕ, zero, suc, List, [], ◌∷◌, ◌++◌, length, get_or, take, map, All, Option, None, Some, refl, ap, sym, ◌∙◌, subst, inl, inr, arith, add-one, slice_index}
use Rattle.std.specs.List.{AllPairs}
use Rattle.std.proofs.lemmas.Bool.{cases_lt, cases_Bool, eqb-true, ltb-true, false≢true}
use Rattle.std.proofs.lemmas.List.{length-drop, length-map, length_push, get_or-map, get_or-take, length-take-le, take_all, map-append}
use Rattle.std.proofs.lemmas.List.FromFn.{get_or-map-range_with_len, length-map-range_with_len}
use Rattle.std.proofs.lemmas.List.Elements.{All-push}
use Rattle.std.proofs.lemmas.List.Quantifiers.{all_pairs_push}
use Rattle.strip_model.specs.Pairs.{FitPairs}
use Rattle.strip_model.specs.Data.{ActorData, SceneData, IsActor, IsScene, IsInstance}
use Rattle.strip_instance.specs.Fault.{FaultData, BadRate, BadHold}
use Rattle.strip_text.specs.Field.{Field}
use Rattle.strip_text.specs.Number.{number_of}
use Rattle.strip_text.specs.Checks.{below}
use Rattle.strip_text.specs.Rows.{Row, field_of, is_empty_row, row_of}
use Rattle.strip_text.proofs.Held.{Hold}
use Rattle.strip_text.proofs.Passed.{held, others, front, back, held-below, held-fewer}
use Rattle.strip_instance.specs.Parts.{Parts, parts_of, actor_fields}
use Rattle.strip_instance.specs.Faults.{actor_name_checks, header_checks, rate_check, pay_row_checks, rate_row_checks, hold_row_checks, pay_checks, scene_rows, scene_checks, body_checks, scenes_checks, scene_names, befores_checks, some_scene_checks, body_parts_checks, all_checks}
use Rattle.strip_instance.specs.Befores.{pairs_of}
use Rattle.strip_instance.specs.Text.{actor_of, actors_of, holds_of, rates_of, scene_of, instance_of}
use Rattle.strip_instance.proofs.pairs.Fit.{fit_taken}
use Rattle.strip_instance.proofs.said.Limits.{name-limits, scene_name-limits, number-limits, cast-limits, not_found}
use Rattle.strip_instance.proofs.read.SceneRows.{scene_rows-passed, scene_rows-more, body_checks-scene}

-- there are no more actors than may be
pub actors-few : (names : List Field) → Hold (below (length names) (actor_name_checks names)) → length names ≤ 64
actors-few names hold = elim (cases_lt 64 (length names)) [
  | inl many ↦ absurd (false≢true (held _ _ _ (held-below (length names) (actor_name_checks names) 64 many hold)))
  | inr few ↦ few
]

-- a row of rates keeps the limits
pay-limits : (fault : ℕ → FaultData) (header : Row) (number : ℕ) (row : Row) → Hold (pay_row_checks fault header number row)
    → (k : ℕ) → k < length (actor_fields header) → slice_index (rates_of row) k ≤ 1_000_000_000
pay-limits fault header number row hold k within =
    let wide : length row ≡ length header = eqb-true (length row) (length header) (held _ _ _ hold) in
    let here : k < length (actor_fields row) = omega (arith, wide, length-drop 2 row, length-drop 2 header) in
    let rate = held _ _ _ (held-below (length (actor_fields row)) (rate_check fault row) k here (others _ _ _ hold)) in
    subst (λ n. n ≤ 1_000_000_000) (sym (get_or-map number_of (actor_fields row) k [] 0 here))
    (number-limits 0 1_000_000_000 (field_of (actor_fields row) k) rate).1

rates-limits : (header rates : Row) → Hold (rate_row_checks header rates) → (k : ℕ) → k < length (actor_fields header) → slice_index (rates_of rates) k ≤ 1_000_000_000
rates-limits header rates hold k within = pay-limits BadRate header 2 rates (others _ _ _ hold) k within

holds-limits : (header rates : Row) (hold_row : Option Row) → Hold (rate_row_checks header rates) → Hold (hold_row_checks header hold_row)
    → (k : ℕ) → k < length (actor_fields header) → slice_index (holds_of (rates_of rates) hold_row) k ≤ 1_000_000_000
holds-limits header rates None rated paid k within = rates-limits header rates rated k within
holds-limits header rates (Some row) rated paid k within = pay-limits BadHold header 3 row paid k within

-- the actors, one by one
actors-at : (names : List Field) (rates holds : List ℕ) (k : ℕ) (d : ActorData) → k < length names
    → get_or (actors_of names rates holds) k d ≡ actor_of names rates holds k
actors-at names rates holds k d within = get_or-map-range_with_len (actor_of names rates holds) 0 (length names) k k d within (omega arith)

-- each keeps the limits
actors-limits : (names : List Field) (rates holds : List ℕ) → Hold (below (length names) (actor_name_checks names))
    → ((k : ℕ) → k < length names → slice_index rates k ≤ 1_000_000_000) → ((k : ℕ) → k < length names → slice_index holds k ≤ 1_000_000_000)
    → All IsActor (actors_of names rates holds)
actors-limits names rates holds hold rated paid k d within =
    let short : k < length names = omega (arith, length-map-range_with_len (actor_of names rates holds) 0 (length names)) in
    let name = held _ _ _ (others _ _ _ (others _ _ _ (held-below (length names) (actor_name_checks names) k short hold))) in
    subst IsActor (sym (actors-at names rates holds k d short)) (record {
      name = name-limits (get_or names k []) name;
      rate = rated k short;
      hold = paid k short;
    })

-- and has a name of its own
actors-differ : (names : List Field) (rates holds : List ℕ) → Hold (below (length names) (actor_name_checks names))
    → AllPairs (λ a b. a.name ≢ b.name) (actors_of names rates holds)
actors-differ names rates holds hold i j d before within =
    let second : j < length names = omega (arith, length-map-range_with_len (actor_of names rates holds) 0 (length names)) in
    let first : i < length names = omega arith in
    let new = held _ _ _ (others _ _ _ (others _ _ _ (others _ _ _ (held-below (length names) (actor_name_checks names) j second hold)))) in
    let earlier : i < length (take j names) = omega (arith, length-take-le j names (omega arith)) in
    λ equal. not_found (take j names) (get_or names j []) i new earlier (get_or-take j names i [] before
    ∙ sym (ap (λ (actor : ActorData). actor.name) (actors-at names rates holds i d first)) ∙ equal
    ∙ ap (λ (actor : ActorData). actor.name) (actors-at names rates holds j d second))

-- the scenes so far keep the limits
pub record SceneLimits (actors : ℕ) (scenes : List SceneData) : Type 0 where
  pub each : All (IsScene actors) scenes
  pub differ : AllPairs (λ a b. a.name ≢ b.name) scenes
  pub few : length scenes ≤ 200

no_scenes : (actors : ℕ) → SceneLimits actors []
no_scenes actors = record { each = λ k d within. absurd (omega arith); differ = λ i j d before within. absurd (omega arith); few = omega arith }

-- a scene keeps them
scene-limits : (header row : Row) (earlier : List Row) (number : ℕ) → Hold (scene_checks header earlier number row)
    → IsScene (length (actor_fields header)) (scene_of row)
scene-limits header row earlier number hold =
    let width = others _ _ _ hold in
    let name = others _ _ _ (others _ _ _ width) in
    let days = others _ _ _ (others _ _ _ name) in
    let wide : length row ≡ length header = eqb-true (length row) (length header) (held _ _ _ width) in
    record {
      name = scene_name-limits (field_of row 0) (held _ _ _ name);
      days = number-limits 1 99 (field_of row 1) (held _ _ _ days);
      cast = λ actor there. omega (arith, wide, length-drop 2 row, length-drop 2 header, cast-limits (actor_fields row) actor there);
    }

-- one scene more keeps them
one_more : (header : Row) (earlier : List Row) (number : ℕ) (row : Row) → Hold (scene_checks header earlier number row)
    → SceneLimits (length (actor_fields header)) (map scene_of earlier) → SceneLimits (length (actor_fields header)) (map scene_of (earlier ++ row ∷ []))
one_more header earlier number row hold limits =
    let new = held _ _ _ (others _ _ _ (others _ _ _ (others _ _ _ (others _ _ _ hold)))) in
    let count : length earlier < 200 = ltb-true (length earlier) 200 (held _ _ _ hold) in
    let names = map (λ (other : Row). field_of other 0) earlier in
    subst (SceneLimits (length (actor_fields header))) (sym (map-append scene_of earlier (row ∷ []))) (record {
      each = All-push (IsScene (length (actor_fields header))) (map scene_of earlier) (scene_of row) limits.each (scene-limits header row earlier number hold);
      differ = all_pairs_push (λ a b. a.name ≢ b.name) (map scene_of earlier) (scene_of row) limits.differ
          (λ k d within.
          let short : k < length earlier = omega (arith, length-map earlier scene_of) in
          let there : k < length names = omega (arith, length-map earlier (λ (other : Row). field_of other 0)) in
          λ equal. not_found names (field_of row 0) k new there
          (get_or-map (λ (other : Row). field_of other 0) earlier k [] [] short ∙ ap (λ (scene : SceneData). scene.name) (sym (get_or-map scene_of earlier k [] d short)) ∙ equal));
      few = omega (arith, length_push (map scene_of earlier) (scene_of row), length-map earlier scene_of);
    })

-- all do
scenes-limits : (parts : Parts) (k : ℕ) → k ≤ length parts.scenes → Hold (below k (body_checks parts.header parts.first parts.scenes))
    → SceneLimits (length (actor_fields parts.header)) (map scene_of (scene_rows (take k parts.scenes)))
scenes-limits parts zero within hold = no_scenes (length (actor_fields parts.header))
scenes-limits parts (suc k) within hold =
    let before = scenes-limits parts k (omega arith) (held-fewer k (body_checks parts.header parts.first parts.scenes) hold) in
    let here = held-below (suc k) (body_checks parts.header parts.first parts.scenes) k (omega arith) hold in
    let row = row_of parts.scenes k in
    let short : k < length parts.scenes = omega arith in
    let Keeps : List Row → Type 0 = λ rows. SceneLimits (length (actor_fields parts.header)) (map scene_of rows) in
    elim (cases_Bool (is_empty_row row)) [
      | inl passed ↦ subst Keeps (sym (ap (λ n. scene_rows (take n parts.scenes)) (sym (add-one k)) ∙ scene_rows-passed parts.scenes k row short refl passed)) before
      | inr kept ↦ subst Keeps (sym (ap (λ n. scene_rows (take n parts.scenes)) (sym (add-one k)) ∙ scene_rows-more parts.scenes k row short refl kept))
          (one_more parts.header (scene_rows (take k parts.scenes)) (parts.first + k) row (record { none = sym (body_checks-scene parts.header parts.first parts.scenes k row refl kept) ∙ here.none }) before)
    ]

-- so there are no more scenes than may be
pub scenes_few : (header : Row) (first : ℕ) (scenes : List Row) → Hold (scenes_checks header first scenes) → length (scene_rows scenes) ≤ 200
scenes_few header first scenes hold =
    let parts : Parts = record { header = header; rates = []; hold = None; scenes = scenes; befores = []; first = first } in
    let limits = scenes-limits parts (length scenes) (omega arith) hold in
    let all : take (length scenes) scenes ≡ scenes = take_all (length scenes) scenes (omega arith) in
    omega (arith, limits.few, length-map (scene_rows (take (length scenes) scenes)) scene_of, ap (λ (rows : List Row). length (scene_rows rows)) all)

-- what parts without a fault say is an instance
parts-limits : (parts : Parts) → Hold (header_checks parts.header ++ pay_checks parts ++ body_parts_checks parts.header parts.first parts.scenes parts.befores) → IsInstance (instance_of parts)
parts-limits parts hold =
    let names = actor_fields parts.header in
    let rates = rates_of parts.rates in
    let holds = holds_of rates parts.hold in
    let firsts = front (header_checks parts.header ++ pay_checks parts) _ hold in
    let named = others _ _ _ (front (header_checks parts.header) _ firsts) in
    let paid = back (header_checks parts.header) _ firsts in
    let rated = front (rate_row_checks parts.header parts.rates) _ paid in
    let held_rates = back (rate_row_checks parts.header parts.rates) _ paid in
    let count : length (actors_of names rates holds) ≡ length names = length-map-range_with_len (actor_of names rates holds) 0 (length names) in
    let bodies = back (header_checks parts.header ++ pay_checks parts) _ hold in
    let filmed = scenes_checks parts.header parts.first parts.scenes in
    let paired = befores_checks (scene_names parts.scenes) (parts.first + length parts.scenes) parts.befores in
    let all = front (filmed ++ paired) (some_scene_checks parts.scenes) bodies in
    let scenes = scene_rows parts.scenes in
    let limits : SceneLimits (length names) (map scene_of scenes)
    = subst (λ (rows : List Row). SceneLimits (length names) (map scene_of (scene_rows rows))) (take_all (length parts.scenes) parts.scenes (omega arith))
    (scenes-limits parts (length parts.scenes) (omega arith) (front filmed paired all)) in
    let some : 0 < length scenes = ltb-true 0 (length scenes) (held _ _ _ (back (filmed ++ paired) (some_scene_checks parts.scenes) bodies)) in
    record {
      scene_count = (omega (arith, length-map scenes scene_of), limits.few);
      actor_count = omega (arith, count, actors-few names named);
      scenes = subst (λ n. All (IsScene n) (map scene_of scenes)) (sym count) limits.each;
      actors = actors-limits names rates holds named (rates-limits parts.header parts.rates rated)
          (holds-limits parts.header parts.rates parts.hold rated held_rates);
      scene_names = limits.differ;
      actor_names = actors-differ names rates holds named;
      pairs = subst (λ n. FitPairs n (pairs_of (scene_names parts.scenes) parts.befores))
          (length-map scenes (λ (row : Row). field_of row 0) ∙ sym (length-map scenes scene_of))
          (subst (λ (rows : List Row). FitPairs (length (scene_names parts.scenes)) (pairs_of (scene_names parts.scenes) rows))
          (take_all (length parts.befores) parts.befores (omega arith))
          (fit_taken (scene_names parts.scenes) (parts.first + length parts.scenes) parts.befores (length parts.befores) (omega arith) (back filmed paired all)));
    }

-- what rows without a fault say is one
pub instance-limits : (rows : List Row) → Hold (all_checks rows) → IsInstance (instance_of (parts_of rows))
instance-limits [] hold = absurd (false≢true (held _ _ _ hold))
instance-limits (header ∷ rows) hold = parts-limits (parts_of (header ∷ rows)) hold
