-- No check of a text's rows has want of memory for its fault.
use Rattle.std.proofs.Common.{◌≡◌, ◌≢◌, ◌+◌, ℕ, Bool, true, false, List, ◌++◌, length, drop, Option, None, Some, Err, nat_le, codes, if◌then◌else◌}
use Rattle.std.specs.Str.{bytes_eq}
use Rattle.strip_model.specs.Data.{InstanceData}
use Rattle.strip_text.specs.Rows.{Row, field_of, rows_of, row_of}
use Rattle.strip_text.specs.Checks.{checks_of_one, below, first_fault}
use Rattle.strip_text.proofs.Spared.{Spares, spares-nil, spares-cons, spares-append, spares-below}
use Rattle.strip_proof.specs.declared.fault.PlanFault.{PlanFault}
use Rattle.strip_proof.specs.declared.fault.PlanFault.TheVariants.{BadRow, Memory}
use Rattle.strip_proof.specs.Faults.{Checks, line_due, lines_checks, plan_row_checks}
use Rattle.strip_proof.specs.Format.{Format, checks_in, first_format, plan_checks, second_format}
use Rattle.strip_proof.specs.Text.{reading_of, says}

-- the five rows
five-spare : (inst : InstanceData) (first : ℕ) (rows : List Row) → Spares Memory (plan_row_checks inst first rows)
five-spare inst first rows =
    spares-cons _ _ _ (λ e. cc) (spares-cons _ _ _ (λ e. cc)
    (spares-cons _ _ _ (λ e. cc) (spares-cons _ _ _ (λ e. cc)
    (spares-cons _ _ _ (λ e. cc) (spares-cons _ _ _ (λ e. cc)
    (spares-cons _ _ _ (λ e. cc) (spares-cons _ _ _ (λ e. cc)
    (spares-cons _ _ _ (λ e. cc) (spares-cons _ _ _ (λ e. cc) (spares-cons _ _ _ (λ e. cc) (spares-nil Memory)))))))))))

-- the line rows
lines-spare : (first count : ℕ) (rows : List Row) → Spares Memory (lines_checks first count rows)
lines-spare first count rows =
    spares-append (below count (line_due first rows)) (checks_of_one (nat_le (length rows) count) (BadRow (first + count)))
    (spares-below count (line_due first rows) (λ k. spares-cons _ _ _ (λ e. cc) (spares-cons _ _ _ (λ e. cc) (spares-cons _ _ _ (λ e. cc) (spares-nil Memory)))))
    (spares-cons _ _ _ (λ e. cc) (spares-nil Memory))

in-format : (inst : InstanceData) (rows : List Row) (format : Format) → Spares Memory format.front → Spares Memory format.back → Spares Memory (checks_in inst rows format)
in-format inst rows format one two =
    let five : Checks = plan_row_checks inst (format.before + 1) (drop format.before rows) in
    let lines : Checks = lines_checks (format.heads + 1) format.lines (drop format.heads rows) in
    spares-append (format.front ++ five ++ format.back) lines
    (spares-append (format.front ++ five) format.back
    (spares-append format.front five one (five-spare inst (format.before + 1) (drop format.before rows))) two)
    (lines-spare (format.heads + 1) format.lines (drop format.heads rows))

either-spares : (inst : InstanceData) (rows : List Row) (second : Bool) → Spares Memory (checks_in inst rows (if second then second_format rows else first_format rows))
either-spares inst rows true =
    in-format inst rows (second_format rows)
    (spares-cons _ _ _ (λ e. cc) (spares-cons _ _ _ (λ e. cc) (spares-cons _ _ _ (λ e. cc) (spares-cons _ _ _ (λ e. cc) (spares-nil Memory)))))
    (spares-cons _ _ _ (λ e. cc) (spares-cons _ _ _ (λ e. cc) (spares-cons _ _ _ (λ e. cc) (spares-nil Memory))))
either-spares inst rows false = in-format inst rows (first_format rows) (spares-nil Memory) (spares-nil Memory)

-- rows are never read as want of memory
not_memory : (inst : InstanceData) (rows : List Row) (found : Option PlanFault) → found ≢ Some Memory → reading_of inst rows found ≢ Err Memory
not_memory inst rows None never said = cc
not_memory inst rows (Some fault) never said = never (let same : fault ≡ Memory = cc in λ i. Some (same i))

-- no text says that memory ran out
pub memory-never_said : (inst : InstanceData) (text : List ℕ) → says inst text ≢ Err Memory
memory-never_said inst text =
    let rows = rows_of text in
    not_memory inst rows (first_fault (plan_checks inst rows))
    (either-spares inst rows (bytes_eq (field_of (row_of rows 0) 0) (codes "plan"))).never
