-- The rows of lines, one after the other.
use Rattle.std.proofs.Common.{◌≡◌, ℕ, ◌+◌, ◌<◌, List, [], ◌∷◌, ◌++◌, length, take, drop, get_or, Result, Ok, Err, OnErr, sym, ◌∙◌, ap, append_assoc}
use Rattle.std.proofs.lemmas.Grind.{flat_map-append}
use Rattle.std.proofs.lemmas.List.{append-nil, take-append-drop, take_more}
use Rattle.strip_film.specs.declared.shared.Line.{Line}
use Rattle.strip_text.specs.Rows.{csv_row}
use Rattle.strip_proof.specs.Rows.{line_row, lines_text}

-- the rows of the first lines, and of the next one
pub next_row : (lines : List Line) (n : ℕ) (none : Line) (row : List ℕ) → n < length lines → row ≡ csv_row (line_row (get_or lines n none))
    → lines_text (take n lines) ++ row ≡ lines_text (take (n + 1) lines)
next_row lines n none row lt is =
    ap (λ (l : List ℕ). lines_text (take n lines) ++ l) (is ∙ sym (append-nil (csv_row (line_row (get_or lines n none)))))
    ∙ sym (ap lines_text (take_more lines n none lt) ∙ flat_map-append (λ (l : Line). csv_row (line_row l)) (take n lines) (get_or lines n none ∷ []))

pub row_added : (sent piece chunk chunk_then row text : List ℕ) → sent ++ chunk ≡ text → piece ++ chunk_then ≡ chunk ++ row
    → (sent ++ piece) ++ chunk_then ≡ text ++ row
row_added sent piece chunk chunk_then row text parts added =
    append_assoc sent piece chunk_then ∙ ap (λ (l : List ℕ). sent ++ l) added ∙ sym (append_assoc sent chunk row) ∙ ap (λ (l : List ℕ). l ++ row) parts

-- the rows of the first lines and those of the others are all rows
pub rows_split : (lines : List Line) (n : ℕ) → lines_text (take n lines) ++ lines_text (drop n lines) ≡ lines_text lines
rows_split lines n =
    sym (flat_map-append (λ (l : Line). csv_row (line_row l)) (take n lines) (drop n lines)) ∙ ap lines_text (take-append-drop n lines)

-- what holds anyway holds on an error
pub on_err : {T E P : Type 0} (r : Result T E) → P → OnErr r P
on_err (Ok x) p = tt
on_err (Err e) p = p
