-- The checks of the scenes, of the rows behind them, and that there is a scene.
use Rattle.std.proofs.Common.{◌≡◌, ◌<◌, ◌+◌, ℕ, Bool, true, false, List, [], ◌∷◌, ◌++◌, length, map, None, Some, refl, sym, ap, ◌∙◌, arith}
use Rattle.std.proofs.lemmas.List.{length-map}
use Rattle.std.proofs.lemmas.Simd.{map-map}
use Rattle.strip_text.specs.Field.{Field}
use Rattle.strip_text.specs.Rows.{Row}
use Rattle.strip_text.specs.Checks.{first_fault}
use Rattle.strip_text.proofs.Making.{makes-front, makes-past, first_fault-append, passes, fails}
use Rattle.strip_model.specs.Data.{SceneData}
use Rattle.strip_instance.specs.Fault.{FaultData, NoScene}
use Rattle.strip_instance.specs.Checks.{Checks}
use Rattle.strip_instance.specs.Faults.{befores_checks, body_parts_checks, scene_names, scene_rows, scenes_checks, some_scene_checks}
use Rattle.strip_instance.specs.Shown.{rows_from}
use Rattle.strip_instance.specs.Text.{scene_of}
use Rattle.strip_instance.proofs.read.SceneRows.{no_scene, some_scene}
use Rattle.strip_instance.proofs.read.Whole.{Tells}

-- the header, the rows of the scenes, of which the first has this number, and the rows behind them
module _ (header : Row) (first : ℕ) (scenes befores : List Row) where
  abbrev filmed : Checks
  filmed = scenes_checks header first scenes

  abbrev paired : Checks
  paired = befores_checks (scene_names scenes) (first + length scenes) befores

  -- a fault of the scenes
  pub scenes-fault : (fault : FaultData) → Tells fault filmed → Tells fault (body_parts_checks header first scenes befores)
  scenes-fault fault tells = makes-front (filmed ++ paired) (some_scene_checks scenes) fault (makes-front filmed paired fault tells)

  -- a fault of the rows behind them
  pub befores-fault : (fault : FaultData) → first_fault filmed ≡ None → Tells fault paired → Tells fault (body_parts_checks header first scenes befores)
  befores-fault fault holds tells = makes-front (filmed ++ paired) (some_scene_checks scenes) fault (makes-past filmed paired fault holds tells)

  parts-hold : first_fault filmed ≡ None → first_fault paired ≡ None
      → first_fault (body_parts_checks header first scenes befores) ≡ first_fault (some_scene_checks scenes)
  parts-hold holds pairs = first_fault-append (filmed ++ paired) (some_scene_checks scenes) (first_fault-append filmed paired holds ∙ pairs)

  count : (made : List SceneData) → made ≡ map scene_of (scene_rows scenes) → length (scene_rows scenes) ≡ length made
  count made is = sym (ap length is ∙ length-map (scene_rows scenes) scene_of)

  -- without a scene that is the fault
  pub end-fault : (made : List SceneData) → made ≡ map scene_of (scene_rows scenes) → length made ≡ 0 → first_fault filmed ≡ None → first_fault paired ≡ None
      → first_fault (body_parts_checks header first scenes befores) ≡ Some NoScene
  end-fault made is none holds pairs =
      parts-hold holds pairs ∙ fails _ NoScene [] (no_scene (length (scene_rows scenes)) (count made is ∙ none))

  -- and with one there is none
  pub no-fault : (made : List SceneData) → made ≡ map scene_of (scene_rows scenes) → 0 < length made → first_fault filmed ≡ None → first_fault paired ≡ None
      → first_fault (body_parts_checks header first scenes befores) ≡ None
  no-fault made is some holds pairs =
      parts-hold holds pairs ∙ passes _ NoScene [] None (some_scene (length (scene_rows scenes)) (omega (arith, some, count made is))) refl

-- the names of the scenes that rows say
pub scene_names-made : (scenes : List Row) (made : List SceneData) → made ≡ map scene_of (scene_rows scenes) → map (λ (scene : SceneData). scene.name) made ≡ scene_names scenes
scene_names-made scenes made is = ap (map (λ (scene : SceneData). scene.name)) is ∙ map-map (λ (scene : SceneData). scene.name) scene_of (scene_rows scenes)

-- the checks of the rows behind the scenes are those of the rows from the first of them on, which has its number where it is there
pub later-same : (there : Bool) (names : List Field) (row : Row) (number first : ℕ) (left rows : List Row) → rows_from there row left ≡ rows
    → ((there ≡ true) → number ≡ first) → befores_checks names number (rows_from there row left) ≡ befores_checks names first rows
later-same true names row number first left rows same counted =
    ap (λ n. befores_checks names n (row ∷ left)) (counted refl) ∙ ap (befores_checks names first) same
later-same false names row number first left rows same counted = ap (befores_checks names first) same
