-- The names of what a text says are names that a text can say.
use Rattle.std.proofs.Common.{◌≡◌, ℕ, ◌<◌, ◌+◌, Bool, true, false, not, List, [], ◌∷◌, ◌++◌, length, get_or, take, drop, All, refl, sym, ◌∙◌, subst, arith, if◌then◌else◌}
use Rattle.std.specs.List.{position_or_len}
use Rattle.std.proofs.lemmas.Bool.{false≢true, not-true}
use Rattle.std.proofs.lemmas.List.FromFn.{get_or-map-range_with_len, length-map-range_with_len}
use Rattle.std.proofs.lemmas.List.Elements.{All-head, All-drop, All-take, All-filter, All-map, All-from_get_or, filter_passes}
use Rattle.strip_model.specs.Data.{ActorData, SceneData}
use Rattle.strip_text.specs.Field.{Field, trimmed}
use Rattle.strip_text.specs.Checks.{below}
use Rattle.strip_text.specs.Rows.{Row, field_of, is_empty_row, row_of}
use Rattle.strip_text.proofs.Held.{Hold}
use Rattle.strip_text.proofs.Trimmed.{IsTrimmedRow, trimmed-field_of}
use Rattle.strip_text.proofs.Passed.{held, others, front, back, held-below}
use Rattle.strip_instance.specs.Field.{is_name, is_scene_name}
use Rattle.strip_instance.specs.Parts.{Parts, parts_of, has_hold_row, body_of, is_before_row, actor_fields}
use Rattle.strip_instance.specs.Faults.{actor_name_checks, header_checks, pay_checks, scene_rows, scene_checks, body_checks, scenes_checks, scene_names, befores_checks, some_scene_checks, body_parts_checks, all_checks}
use Rattle.strip_instance.specs.Text.{IsReadableName, HasReadableNames, actor_of, actors_of, holds_of, rates_of, scene_of, instance_of}
use Rattle.strip_instance.proofs.read.SceneRows.{body_checks-scene}

-- what holds of each name holds of each actor's
actors-named : (P : Field → Type 0) (names : List Field) (rates holds : List ℕ) → All P names → All (λ (actor : ActorData). P actor.name) (actors_of names rates holds)
actors-named P names rates holds all k d within =
    let short : k < length names = omega (arith, length-map-range_with_len (actor_of names rates holds) 0 (length names)) in
    subst (λ (actor : ActorData). P actor.name) (sym (get_or-map-range_with_len (actor_of names rates holds) 0 (length names) k k d short (omega arith)))
    (all k [] short)

-- a header without a fault has readable names
header-readable : (names : List Field) → All (λ field. trimmed field ≡ field) names → Hold (below (length names) (actor_name_checks names))
    → All (IsReadableName is_name) names
header-readable names trim hold = All-from_get_or (IsReadableName is_name) names [] (λ k within. record {
  passes = held _ _ _ (others _ _ _ (others _ _ _ (held-below (length names) (actor_name_checks names) k within hold)));
  bare = trim k [] within;
})

-- a row without a fault that isn't passed over passes the test of scenes' names
scene-named : (parts : Parts) (k : ℕ) → k < length parts.scenes → Hold (below (length parts.scenes) (body_checks parts.header parts.first parts.scenes))
    → is_empty_row (row_of parts.scenes k) ≡ false → is_scene_name (field_of (row_of parts.scenes k) 0) ≡ true
scene-named parts k within hold kept =
    let here = held-below (length parts.scenes) (body_checks parts.header parts.first parts.scenes) k within hold in
    let its : Hold (scene_checks parts.header (scene_rows (take k parts.scenes)) (parts.first + k) (row_of parts.scenes k))
    = record { none = sym (body_checks-scene parts.header parts.first parts.scenes k (row_of parts.scenes k) refl kept) ∙ here.none } in
    held _ _ _ (others _ _ _ (others _ _ _ (others _ _ _ its)))

-- the rows of the scenes have readable names
scenes-readable : (parts : Parts) → All IsTrimmedRow parts.scenes → Hold (below (length parts.scenes) (body_checks parts.header parts.first parts.scenes))
    → All (λ row. IsReadableName is_scene_name (field_of row 0)) (scene_rows parts.scenes)
scenes-readable parts trim hold =
    let body = parts.scenes in
    let IsKept = λ (row : Row). not (is_empty_row row) in
    let IsNamed : Row → Type 0 = λ row. is_empty_row row ≡ false → is_scene_name (field_of row 0) ≡ true in
    let named : All IsNamed (scene_rows body)
    = All-filter IsKept IsNamed body (All-from_get_or IsNamed body [] (λ k within. scene-named parts k within hold)) in
    let bare : All IsTrimmedRow (scene_rows body) = All-filter IsKept IsTrimmedRow body trim in
    λ k d within. record {
      passes = named k d within (not-true _ (filter_passes IsKept body k d within));
      bare = trimmed-field_of (get_or (scene_rows body) k d) 0 (bare k d within);
    }

-- the instance of parts without a fault has readable names
parts-readable : (parts : Parts) → IsTrimmedRow parts.header → All IsTrimmedRow parts.scenes
    → Hold (header_checks parts.header ++ pay_checks parts ++ body_parts_checks parts.header parts.first parts.scenes parts.befores) → HasReadableNames (instance_of parts)
parts-readable parts header_trim body_trim hold =
    let names = actor_fields parts.header in
    let rates = rates_of parts.rates in
    let names_trim = All-drop (λ (field : Field). trimmed field ≡ field) 2 parts.header header_trim in
    let named = others _ _ _ (front (header_checks parts.header) _ (front (header_checks parts.header ++ pay_checks parts) _ hold)) in
    let bodies = back (header_checks parts.header ++ pay_checks parts) _ hold in
    let filmed = scenes_checks parts.header parts.first parts.scenes in
    let paired = befores_checks (scene_names parts.scenes) (parts.first + length parts.scenes) parts.befores in
    record {
      scenes = All-map (λ (scene : SceneData). IsReadableName is_scene_name scene.name) scene_of (scene_rows parts.scenes)
          (scenes-readable parts body_trim (front filmed paired (front (filmed ++ paired) (some_scene_checks parts.scenes) bodies)));
      actors = actors-named (IsReadableName is_name) names rates (holds_of rates parts.hold) (header-readable names names_trim named);
    }

-- the body's rows are some of all
body-trimmed : (own : Bool) (rest : List Row) → All IsTrimmedRow rest → All IsTrimmedRow (if own then drop 1 rest else rest)
body-trimmed true rest trim = All-drop IsTrimmedRow 1 rest trim
body-trimmed false rest trim = trim

-- that of rows without a fault too
pub instance-readable : (rows : List Row) → All IsTrimmedRow rows → Hold (all_checks rows) → HasReadableNames (instance_of (parts_of rows))
instance-readable [] trim hold = absurd (false≢true (held _ _ _ hold))
instance-readable (header ∷ rows) trim hold =
    parts-readable (parts_of (header ∷ rows)) (All-head IsTrimmedRow header rows trim)
    (All-take IsTrimmedRow (position_or_len is_before_row (body_of (drop 2 (header ∷ rows)))) (body_of (drop 2 (header ∷ rows)))
    (body-trimmed (has_hold_row (drop 2 (header ∷ rows))) (drop 2 (header ∷ rows)) (All-drop IsTrimmedRow 2 (header ∷ rows) trim))) hold
