-- No check of a text's rows has want of memory for its fault.
use Rattle.std.proofs.Common.{◌≡◌, ◌≢◌, ℕ, ◌+◌, List, [], ◌∷◌, ◌++◌, length, take, Option, None, Some, Err}
use Rattle.strip_instance.specs.Fault.{FaultData, BadRate, BadHold, Memory}
use Rattle.strip_model.specs.declared.pair.Pair.{Pair}
use Rattle.strip_text.specs.Field.{Field}
use Rattle.strip_text.specs.Checks.{first_fault}
use Rattle.strip_text.proofs.Spared.{Spares, spares-nil, spares-cons, spares-append, spares-below, spares-if}
use Rattle.strip_text.specs.Rows.{Row, is_empty_row, rows_of, row_of}
use Rattle.strip_instance.specs.Parts.{Parts, parts_of, actor_fields}
use Rattle.strip_instance.specs.Faults.{actor_name_checks, header_checks, rate_check, rate_row_checks, hold_row_checks, pay_row_checks, pay_checks, scene_rows, mark_check, scene_checks, body_checks, scenes_checks, scene_names, way_checks, pair_checks, later_checks, befores_checks, some_scene_checks, body_parts_checks, parts_checks, all_checks}
use Rattle.strip_instance.specs.Befores.{pairs_of, said_pair, shortest_way}
use Rattle.strip_instance.specs.Text.{says, reading_of}

header-spares : (header : Row) → Spares Memory (header_checks header)
header-spares header =
    spares-cons _ _ _ (λ e. cc) (spares-below (length (actor_fields header)) (actor_name_checks (actor_fields header))
    (λ k. spares-cons _ _ _ (λ e. cc) (spares-cons _ _ _ (λ e. cc) (spares-cons _ _ _ (λ e. cc) (spares-cons _ _ _ (λ e. cc) (spares-nil Memory))))))

pay-spares : (fault : ℕ → FaultData) (header : Row) (number : ℕ) (row : Row) → ((col : ℕ) → fault col ≢ Memory) → Spares Memory (pay_row_checks fault header number row)
pay-spares fault header number row other =
    spares-cons _ _ _ (λ e. cc)
    (spares-below (length (actor_fields row)) (rate_check fault row) (λ k. spares-cons _ _ _ (other (k + 3)) (spares-nil Memory)))

holds-spare : (header : Row) (hold : Option Row) → Spares Memory (hold_row_checks header hold)
holds-spare header None = spares-nil Memory
holds-spare header (Some row) = pay-spares BadHold header 3 row (λ col e. cc)

rates-spare : (parts : Parts) → Spares Memory (pay_checks parts)
rates-spare parts =
    spares-append (rate_row_checks parts.header parts.rates) _
    (spares-cons _ _ _ (λ e. cc) (pay-spares BadRate parts.header 2 parts.rates (λ col e. cc))) (holds-spare parts.header parts.hold)

scene-spares : (header : Row) (earlier : List Row) (number : ℕ) (row : Row) → Spares Memory (scene_checks header earlier number row)
scene-spares header earlier number row =
    spares-cons _ _ _ (λ e. cc) (spares-cons _ _ _ (λ e. cc) (spares-cons _ _ _ (λ e. cc) (spares-cons _ _ _ (λ e. cc)
    (spares-cons _ _ _ (λ e. cc) (spares-cons _ _ _ (λ e. cc)
    (spares-below (length (actor_fields row)) (mark_check number row) (λ k. spares-cons _ _ _ (λ e. cc) (spares-nil Memory))))))))

scenes-spare : (header : Row) (first : ℕ) (scenes : List Row) → Spares Memory (scenes_checks header first scenes)
scenes-spare header first scenes =
    spares-below (length scenes) (body_checks header first scenes)
    (λ k. spares-if (is_empty_row (row_of scenes k)) [] _ (spares-nil Memory) (scene-spares header (scene_rows (take k scenes)) (first + k) (row_of scenes k)))

way-spares : (names : List Field) (number : ℕ) (found : Option (List ℕ)) → Spares Memory (way_checks names number found)
way-spares names number None = spares-nil Memory
way-spares names number (Some scenes) = spares-cons _ _ _ (λ e. cc) (spares-nil Memory)

pair-spares : (names : List Field) (pairs : List Pair) (number : ℕ) (said : Option Pair) → Spares Memory (pair_checks names pairs number said)
pair-spares names pairs number None = spares-cons _ _ _ (λ e. cc) (spares-nil Memory)
pair-spares names pairs number (Some pair) = way-spares names number (shortest_way (length names) pairs pair.then pair.first)

befores-spare : (names : List Field) (first : ℕ) (rows : List Row) → Spares Memory (befores_checks names first rows)
befores-spare names first rows =
    spares-below (length rows) (later_checks names first rows)
    (λ k. spares-if (is_empty_row (row_of rows k)) [] _ (spares-nil Memory) (pair-spares names (pairs_of names (take k rows)) (first + k) (said_pair names (row_of rows k))))

body-spares : (header : Row) (first : ℕ) (scenes befores : List Row) → Spares Memory (body_parts_checks header first scenes befores)
body-spares header first scenes befores =
    spares-append (scenes_checks header first scenes ++ befores_checks (scene_names scenes) (first + length scenes) befores) (some_scene_checks scenes)
    (spares-append (scenes_checks header first scenes) (befores_checks (scene_names scenes) (first + length scenes) befores) (scenes-spare header first scenes)
    (befores-spare (scene_names scenes) (first + length scenes) befores))
    (spares-cons _ _ _ (λ e. cc) (spares-nil Memory))

parts-spare : (parts : Parts) → Spares Memory (parts_checks parts)
parts-spare parts =
    spares-append (header_checks parts.header ++ pay_checks parts) _
    (spares-append (header_checks parts.header) (pay_checks parts) (header-spares parts.header) (rates-spare parts))
    (body-spares parts.header parts.first parts.scenes parts.befores)

all-spare : (rows : List Row) → Spares Memory (all_checks rows)
all-spare [] = spares-cons _ _ _ (λ e. cc) (spares-nil Memory)
all-spare (header ∷ rows) = parts-spare (parts_of (header ∷ rows))

-- rows are never read as want of memory
not_memory : (rows : List Row) (found : Option FaultData) → found ≢ Some Memory → reading_of rows found ≢ Err Memory
not_memory rows None never said = cc
not_memory rows (Some fault) never said = never (let same : fault ≡ Memory = cc in λ i. Some (same i))

-- no text says that memory ran out
pub memory-never_said : (text : List ℕ) → says text ≢ Err Memory
memory-never_said text = not_memory (rows_of text) (first_fault (all_checks (rows_of text))) (all-spare (rows_of text)).never
