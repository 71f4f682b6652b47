-- The rows of the scenes in a canonical text have no fault.
use Rattle.std.proofs.Common.{◌≡◌, ◌≢◌, ℕ, ◌+◌, ◌<◌, ◌≤◌, Bool, true, false, not, List, [], ◌∷◌, length, get_or, map, take, filter, All, refl, sym, ap, ◌∙◌, subst, arith}
use Rattle.std.specs.List.{range_with_len, AllPairs}
use Rattle.std.proofs.lemmas.List.FromFn.{length-map-range_with_len}
use Rattle.std.proofs.lemmas.Bool.{lt-ltb, eq-eqb, ne_eqb, and_left, cond-true, cond-false, not_from_false}
use Rattle.std.proofs.lemmas.List.{length-map, length-take-le, get_or-map, take-map}
use Rattle.std.proofs.lemmas.List.Elements.{All-head, All-tail, All-get_or, All-map, All-take, All-weaker}
use Rattle.std.proofs.lemmas.Simd.{map-map}
use Rattle.strip_model.specs.Data.{SceneData, IsScene}
use Rattle.strip_text.specs.Rows.{Row, field_of, is_empty_row}
use Rattle.strip_text.proofs.Held.{Hold, hold-nil, hold-cons, hold-below}
use Rattle.strip_text.proofs.Numbers.{is_number-decimal}
use Rattle.strip_instance.specs.Field.{is_scene_name, is_mark}
use Rattle.strip_instance.specs.Faults.{contains, scene_rows, mark_checks, scene_checks, body_checks, scenes_checks, some_scene_checks}
use Rattle.strip_instance.proofs.back.TextNames.{IsTextName}
use Rattle.strip_instance.specs.Canonical.{mark_of, scene_fields}
use Rattle.strip_instance.proofs.Marks.{is_mark-mark_of}
use Rattle.strip_instance.proofs.back.ReadableNames.{pairs-map, not_contained-before}

-- what is known of a scene
pub record IsSound (actors : ℕ) (scene : SceneData) : Type 0 where
  pub limits : IsScene actors scene
  pub name : IsTextName is_scene_name scene.name

-- a filter that every element passes
pub filter-all : {X : Type 0} (test : X → Bool) (xs : List X) → All (λ x. test x ≡ true) xs → filter test xs ≡ xs
filter-all test [] pass = refl
filter-all test (x ∷ xs) pass =
    cond-true (test x) (x ∷ filter test xs) (filter test xs) (All-head (λ y. test y ≡ true) x xs pass)
    ∙ ap (λ list. x ∷ list) (filter-all test xs (All-tail (λ y. test y ≡ true) x xs pass))

-- a scene's row isn't passed over, since its name isn't empty
not_passed_over : (actors : ℕ) (scene : SceneData) → IsScene actors scene → is_empty_row (scene_fields actors scene) ≡ false
not_passed_over actors scene limits = and_left _ _ (ne_eqb (length scene.name) 0 (λ none. omega (arith, limits.name.0)))

-- of the rows of scenes none is passed over
pub scene_rows-all : (actors : ℕ) (scenes : List SceneData) → All (IsScene actors) scenes
    → scene_rows (map (scene_fields actors) scenes) ≡ map (scene_fields actors) scenes
scene_rows-all actors scenes limits = filter-all (λ row. not (is_empty_row row)) (map (scene_fields actors) scenes)
    (All-map (λ row. not (is_empty_row row) ≡ true) (scene_fields actors) scenes
    (All-weaker (IsScene actors) (λ scene. not (is_empty_row (scene_fields actors scene)) ≡ true)
    (λ scene is. not_from_false _ (not_passed_over actors scene is)) scenes limits))

-- the rows before a place are all rows of scenes
scene_rows-before : (actors place : ℕ) (scenes : List SceneData) → All (IsSound actors) scenes
    → scene_rows (take place (map (scene_fields actors) scenes)) ≡ take place (map (scene_fields actors) scenes)
scene_rows-before actors place scenes sound =
    let limits : All (IsScene actors) scenes = All-weaker (IsSound actors) (IsScene actors) (λ scene is. is.limits) scenes sound in
    ap scene_rows (take-map (scene_fields actors) place scenes)
    ∙ scene_rows-all actors (take place scenes) (All-take (IsScene actors) place scenes limits)
    ∙ sym (take-map (scene_fields actors) place scenes)

-- each mark in a scene's row is one
marks_hold : (actors number : ℕ) (scene : SceneData) → Hold (mark_checks number (scene_fields actors scene))
marks_hold actors number scene =
    let marks = map (mark_of scene.cast) (range_with_len 0 actors) in
    let each : All (λ field. is_mark field ≡ true) marks
    = All-map (λ field. is_mark field ≡ true) (mark_of scene.cast) (range_with_len 0 actors) (λ i d _. is_mark-mark_of scene.cast _) in
    hold-below (length marks) _ (λ actor within.
    hold-cons _ _ _ (All-get_or (λ field. is_mark field ≡ true) marks actor [] within each) hold-nil)

-- a scene's row is as wide as the header
length-scene_fields : (actors : ℕ) (scene : SceneData) (header : Row) → length header ≡ 2 + actors → length (scene_fields actors scene) ≡ length header
length-scene_fields actors scene header is =
    omega (arith, is, length-map-range_with_len (mark_of scene.cast) 0 actors)

-- the checks of a scene's row
scene_holds : (header : Row) (earlier : List Row) (number actors : ℕ) (scene : SceneData) → length header ≡ 2 + actors
    → length earlier < 200 → contains (map (λ other. field_of other 0) earlier) scene.name ≡ false → IsSound actors scene
    → Hold (scene_checks header earlier number (scene_fields actors scene))
scene_holds header earlier number actors scene wide few own sound =
    hold-cons _ _ _ (lt-ltb (length earlier) 200 few)
    (hold-cons _ _ _ (eq-eqb _ _ (length-scene_fields actors scene header wide))
    (hold-cons _ _ _ sound.name.text
    (hold-cons _ _ _ sound.name.readable.passes
    (hold-cons _ _ _ (not_from_false _ own)
    (hold-cons _ _ _ (is_number-decimal 1 99 scene.days sound.limits.days.0 sound.limits.days.1 (omega (arith, sound.limits.days.1)))
    (marks_hold actors number scene))))))

-- the names of the scenes before a place
names_before : (actors place : ℕ) (scenes : List SceneData)
    → map (λ row. field_of row 0) (take place (map (scene_fields actors) scenes)) ≡ take place (map (λ scene. scene.name) scenes)
names_before actors place scenes =
    sym (take-map (λ row. field_of row 0) place (map (scene_fields actors) scenes))
    ∙ ap (take place) (map-map (λ row. field_of row 0) (scene_fields actors) scenes)

-- what stands past the last scene
no_scene : SceneData
no_scene = record { name = []; days = 0; cast = 0 }

-- the rows of these scenes
module _ (header : Row) (first actors : ℕ) (scenes : List SceneData) (wide : length header ≡ 2 + actors)
    (few : length scenes ≤ 200) (sound : All (IsSound actors) scenes) (differ : AllPairs (λ a b. a.name ≢ b.name) scenes) where
  abbrev rows : List Row
  rows = map (scene_fields actors) scenes

  -- the checks of the row at a place
  place_holds : (place : ℕ) → place < length scenes → Hold (body_checks header first rows place)
  place_holds place within =
      let names = map (λ (scene : SceneData). scene.name) scenes in
      let scene = get_or scenes place no_scene in
      let its : IsSound actors scene = All-get_or (IsSound actors) scenes place no_scene within sound in
      let here : get_or rows place [] ≡ scene_fields actors scene = get_or-map (scene_fields actors) scenes place no_scene [] within in
      let before : scene_rows (take place rows) ≡ take place rows = scene_rows-before actors place scenes sound in
      let same : body_checks header first rows place ≡ scene_checks header (take place rows) (first + place) (scene_fields actors scene)
      = cond-false (is_empty_row (get_or rows place [])) [] (scene_checks header (scene_rows (take place rows)) (first + place) (get_or rows place []))
      (ap is_empty_row here ∙ not_passed_over actors scene its.limits)
      ∙ ap (λ earlier. scene_checks header earlier (first + place) (get_or rows place [])) before
      ∙ ap (λ row. scene_checks header (take place rows) (first + place) row) here in
      let few_before : length (take place rows) < 200
      = omega (arith, few, length-map scenes (scene_fields actors), length-take-le place rows (omega (arith, length-map scenes (scene_fields actors)))) in
      let named : get_or names place [] ≡ scene.name = get_or-map (λ scene. scene.name) scenes place no_scene [] within in
      let own : contains (map (λ row. field_of row 0) (take place rows)) scene.name ≡ false
      = ap (λ earlier. contains earlier scene.name) (names_before actors place scenes) ∙ ap (λ name. contains (take place names) name) (sym named)
      ∙ not_contained-before names place (pairs-map (λ scene. scene.name) scenes differ) (omega (arith, length-map scenes (λ (scene : SceneData). scene.name))) in
      subst Hold (sym same) (scene_holds header (take place rows) (first + place) actors scene wide few_before own its)

  -- the checks of all rows of scenes
  pub scenes_hold : Hold (scenes_checks header first rows)
  scenes_hold =
      hold-below (length rows) (body_checks header first rows) (λ place within.
      place_holds place (omega (arith, length-map scenes (scene_fields actors))))

  -- and that there is one
  pub some_holds : 0 < length scenes → Hold (some_scene_checks rows)
  some_holds some =
      let limits : All (IsScene actors) scenes = All-weaker (IsSound actors) (IsScene actors) (λ scene is. is.limits) scenes sound in
      let count : length (scene_rows rows) ≡ length scenes = ap length (scene_rows-all actors scenes limits) ∙ length-map scenes (scene_fields actors) in
      hold-cons _ _ _ (lt-ltb 0 (length (scene_rows rows)) (omega arith)) hold-nil
