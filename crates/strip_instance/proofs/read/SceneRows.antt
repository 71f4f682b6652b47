-- The rows of scenes, row by row.
use Rattle.std.proofs.Common.{◌≡◌, ◌<◌, ◌+◌, ℕ, Bool, true, false, not, cond, List, [], ◌∷◌, ◌++◌, length, get_or, map, take, drop, refl, ap, ◌∙◌, arith, ltb, suc}
use Rattle.std.specs.List.{position_or_len}
use Rattle.std.proofs.lemmas.Bool.Decides.{nat_tests}
use Rattle.std.proofs.lemmas.List.{take_more, append-nil, map-append}
use Rattle.std.proofs.lemmas.List.Elements.{filter-append}
use Rattle.strip_text.specs.Checks.{first_fault}
use Rattle.strip_text.specs.Rows.{Row, is_empty_row, row_of}
use Rattle.strip_model.specs.Data.{SceneData}
use Rattle.strip_instance.specs.Parts.{befores_part, is_before_row, scenes_part}
use Rattle.strip_instance.specs.Faults.{scene_rows, scene_checks, body_checks}
use Rattle.strip_instance.specs.Text.{scene_of}

-- one row more, which is passed over or a scene's
one_row : (row : Row) (passed : Bool) → is_empty_row row ≡ passed → scene_rows (row ∷ []) ≡ cond passed [] (row ∷ [])
one_row row true is = rw is refl
one_row row false is = rw is refl

scene_rows-next : (rows : List Row) (k : ℕ) (row : Row) → k < length rows → row_of rows k ≡ row
    → scene_rows (take (k + 1) rows) ≡ scene_rows (take k rows) ++ scene_rows (row ∷ [])
scene_rows-next rows k row within is =
    ap scene_rows (take_more rows k [] within) ∙ filter-append (λ r. not (is_empty_row r)) (take k rows) (get_or rows k [] ∷ [])
    ∙ ap (λ (r : Row). scene_rows (take k rows) ++ scene_rows (r ∷ [])) is

pub scene_rows-passed : (rows : List Row) (k : ℕ) (row : Row) → k < length rows → row_of rows k ≡ row → is_empty_row row ≡ true
    → scene_rows (take (k + 1) rows) ≡ scene_rows (take k rows)
scene_rows-passed rows k row within is passed =
    scene_rows-next rows k row within is ∙ ap (λ (rs : List Row). scene_rows (take k rows) ++ rs) (one_row row true passed) ∙ append-nil _

pub scene_rows-more : (rows : List Row) (k : ℕ) (row : Row) → k < length rows → row_of rows k ≡ row → is_empty_row row ≡ false
    → scene_rows (take (k + 1) rows) ≡ scene_rows (take k rows) ++ row ∷ []
scene_rows-more rows k row within is kept =
    scene_rows-next rows k row within is ∙ ap (λ (rs : List Row). scene_rows (take k rows) ++ rs) (one_row row false kept)

-- the checks of one row
body_checks-at : (header : Row) (first : ℕ) (body : List Row) (k : ℕ) (row : Row) (passed : Bool) → row_of body k ≡ row → is_empty_row row ≡ passed
    → body_checks header first body k ≡ cond passed [] (scene_checks header (scene_rows (take k body)) (first + k) row)
body_checks-at header first body k row passed is test = rw (is, test) refl

pub body_checks-scene : (header : Row) (first : ℕ) (body : List Row) (k : ℕ) (row : Row) → row_of body k ≡ row → is_empty_row row ≡ false
    → first_fault (body_checks header first body k) ≡ first_fault (scene_checks header (scene_rows (take k body)) (first + k) row)
body_checks-scene header first body k row is kept = ap first_fault (body_checks-at header first body k row false is kept)

-- how many scenes there are tells whether there is one
pub some_scene : (scenes : ℕ) → 0 < scenes → ltb 0 scenes ≡ true
some_scene scenes some = grind (arith, nat_tests)

pub no_scene : (scenes : ℕ) → scenes ≡ 0 → ltb 0 scenes ≡ false
no_scene scenes none = rw none refl

-- the scenes that rows say
abbrev pub scenes_of : List Row → List SceneData
scenes_of rows = map scene_of (scene_rows rows)

-- the scenes of one row more
pub scenes_of-push : (rows : List Row) (row : Row) → scenes_of (rows ++ row ∷ []) ≡ scenes_of rows ++ scenes_of (row ∷ [])
scenes_of-push rows row = ap (map scene_of) (filter-append (λ r. not (is_empty_row r)) rows (row ∷ [])) ∙ map-append scene_of (scene_rows rows) (scene_rows (row ∷ []))

-- a row of a scene is the first of those of the scenes, which end before one of the others
pub scenes_part-next : (row : Row) (rows : List Row) → is_before_row row ≡ false → scenes_part (row ∷ rows) ≡ row ∷ scenes_part rows
scenes_part-next row rows other =
    ap (λ (b : Bool). take (cond (not b) (1 + position_or_len is_before_row rows) 0) (row ∷ rows)) other
    ∙ ap (λ n. take n (row ∷ rows)) one
  where
    one : 1 + position_or_len is_before_row rows ≡ suc (position_or_len is_before_row rows)
    one = omega arith

pub scenes_part-end : (row : Row) (rows : List Row) → is_before_row row ≡ true → scenes_part (row ∷ rows) ≡ []
scenes_part-end row rows is = ap (λ (b : Bool). take (cond (not b) (1 + position_or_len is_before_row rows) 0) (row ∷ rows)) is

pub befores_part-next : (row : Row) (rows : List Row) → is_before_row row ≡ false → befores_part (row ∷ rows) ≡ befores_part rows
befores_part-next row rows other = ap (λ (part : List Row). drop (length part) (row ∷ rows)) (scenes_part-next row rows other)

pub befores_part-end : (row : Row) (rows : List Row) → is_before_row row ≡ true → befores_part (row ∷ rows) ≡ row ∷ rows
befores_part-end row rows is = ap (λ (part : List Row). drop (length part) (row ∷ rows)) (scenes_part-end row rows is)
