-- The rows behind those of the scenes, read one at a time.
use Rattle.std.proofs.Common.{◌≡◌, ℕ, Bool, List, length, take, ap, sym, ◌∙◌, subst, arith}
use Rattle.std.proofs.Math.Seq.{take-append_seam}
use Rattle.std.proofs.lemmas.List.{length-append}
use Rattle.strip_model.specs.declared.pair.Pair.{Pair}
use Rattle.strip_model.specs.Pairs.{FitPairs}
use Rattle.strip_text.specs.Field.{Field}
use Rattle.strip_text.specs.Rows.{Row}
use Rattle.strip_instance.specs.Checks.{Checks}
use Rattle.strip_instance.specs.Befores.{pairs_of}
use Rattle.strip_instance.specs.Faults.{before_checks}
use Rattle.strip_instance.proofs.pairs.Fit.{fit_taken}
use Rattle.strip_instance.proofs.read.Body.{IsRead}

-- the checks of such a row, by the rows before it
abbrev pub pair_row_checks : List Field → List Row → ℕ → Row → Checks
pair_row_checks names earlier number row = before_checks names (pairs_of names earlier) number row

-- the pairs so far can be kept together
pub read_fit : (names : List Field) (first : ℕ) (rows left : List Row) {there : Bool} {number : ℕ} (pairs : List Pair)
    → IsRead (pair_row_checks names) (pairs_of names) first rows there number left pairs → FitPairs (length names) pairs
read_fit names first rows left pairs is =
    let front : take (length is.earlier) rows ≡ is.earlier
    = ap (take (length is.earlier)) is.whole ∙ take-append_seam is.earlier left in
    subst (FitPairs (length names)) (ap (pairs_of names) front ∙ sym is.made)
    (fit_taken names first rows (length is.earlier) (omega (arith, ap length is.whole, length-append is.earlier left)) (record { none = is.pass }))
