-- The rows of a plan's text have no fault.
use Rattle.std.proofs.Common.{◌≡◌, ◌≢◌, ◌≤◌, ◌<◌, ◌+◌, ◌^◌, ℕ, true, List, [], ◌∷◌, ◌++◌, length, map, get_or, All, codes, nat_le, refl, sym, ap, ◌∙◌, subst, arith}
use Rattle.std.specs.Fmt.{decimal}
use Rattle.std.specs.List.{list_all}
use Rattle.std.proofs.Math.Seq.{drop-cons}
use Rattle.std.proofs.lemmas.Bool.{and_from, le-leb, lt-ltb}
use Rattle.std.proofs.lemmas.List.{get_or-map, length-map}
use Rattle.strip_film.specs.declared.shared.Line.{Line}
use Rattle.strip_model.specs.Data.{InstanceData, scene_name}
use Rattle.strip_text.specs.Number.{number_of}
use Rattle.strip_text.specs.Rows.{Row}
use Rattle.strip_text.specs.Checks.{below, check, checks_of_one}
use Rattle.strip_text.proofs.Held.{Hold, hold-append, hold-below, hold-cons, hold-nil}
use Rattle.strip_text.proofs.Numbers.{number_of-decimal}
use Rattle.strip_proof.specs.declared.plan.Status.{Status}
use Rattle.strip_proof.specs.declared.fault.PlanFault.TheVariants.{BadRow, Missing}
use Rattle.strip_proof.specs.Plan.{PlanData}
use Rattle.strip_proof.specs.Field.{is_scene}
use Rattle.strip_proof.specs.Faults.{Checks, due, line_checks, line_due, lines_checks, plan_row_checks}
use Rattle.strip_proof.specs.Rows.{head_rows, line_row, status_word}
use Rattle.strip_proof.specs.Format.{plan_checks}
use Rattle.strip_proof.specs.Text.{HasReadableScenes, IsReadableLine, IsReadablePlan}
use Rattle.strip_proof.proofs.back.Fields.{is_amount-decimal, is_kind-word, is_set-field, is_status-word}
use Rattle.strip_proof.proofs.back.Names.{are_scenes}

-- the five rows of every plan
five-hold : (inst : InstanceData) (first : ℕ) (status : Status) (cost bound held : ℕ) (order : List ℕ) (behind : List Row) → cost < 2 ^ 63 → bound < 2 ^ 63 → held < 2 ^ 63
    → order ≢ [] → list_all (is_scene inst) (map (scene_name inst) order) ≡ true
    → Hold (plan_row_checks inst first (
    (codes "status" ∷ status_word status ∷ [])
    ∷ (codes "cost" ∷ decimal cost ∷ [])
    ∷ (codes "bound" ∷ decimal bound ∷ [])
    ∷ (codes "lines" ∷ decimal held ∷ [])
    ∷ (codes "order" ∷ map (scene_name inst) order)
    ∷ behind
    ))
five-hold inst first status cost bound held order behind low_cost low_bound low_held some known =
    let names = map (scene_name inst) order in
    let fields : nat_le 2 (length (codes "order" ∷ names)) ≡ true = le-leb 2 (length (codes "order" ∷ names)) (two_fields order some) in
    hold-cons _ _ _ refl (hold-cons _ _ _ (is_status-word status)
    (hold-cons _ _ _ refl (hold-cons _ _ _ (is_amount-decimal cost low_cost)
    (hold-cons _ _ _ refl (hold-cons _ _ _ (is_amount-decimal bound low_bound)
    (hold-cons _ _ _ refl (hold-cons _ _ _ (is_amount-decimal held low_held)
    (hold-cons _ _ _ refl (hold-cons _ _ _ (and_from _ _ fields refl) (hold-cons _ _ _ known hold-nil))))))))))
  where
    two_fields : (list : List ℕ) → list ≢ [] → 2 ≤ length (codes "order" ∷ map (scene_name inst) list)
    two_fields [] some = absurd (some refl)
    two_fields (scene ∷ list) some = omega arith

-- the row of a line
line-holds : (before number : ℕ) (line : Line) → IsReadableLine line → before < 16_777_216 → Hold (line_checks before number (line_row line))
line-holds before number line is within =
    hold-cons _ _ _ (and_from _ _ (is_set-field line.set) (is_amount-decimal line.bound is.bound))
    (hold-cons _ _ _ (lt-ltb before 16_777_216 within) hold-nil)

-- the rows of the lines, of which as many are due
pub lines-hold : (first count : ℕ) (lines : List Line) → count ≡ length lines → length lines ≤ 16_777_216 → All IsReadableLine lines
    → Hold (lines_checks first count (map line_row lines))
lines-hold first count lines is few readable =
    let rows = map line_row lines in
    let wide : length rows ≡ length lines = length-map lines line_row in
    let none : Line = record { set = 0; bound = 0 } in
    hold-append (below count (line_due first rows)) (checks_of_one (nat_le (length rows) count) (BadRow (first + count)))
    (hold-below count (line_due first rows) (λ k within.
    let inside : k < length rows = omega (arith, wide, is) in
    let inside_lines : k < length lines = omega (arith, is) in
    let its : get_or rows k [] ≡ line_row (get_or lines k none) = get_or-map line_row lines k none [] inside_lines in
    let here : line_due first rows k ≡ check true (Missing (first + k)) ∷ line_checks k (first + k) (line_row (get_or lines k none))
    = ap (λ (left : List Row). due (first + k) (line_checks k) left) (drop-cons rows k [] inside) ∙ ap (λ (row : Row). check true (Missing (first + k)) ∷ line_checks k (first + k) row) its in
    subst (λ (checks : Checks). Hold checks) (sym here)
    (hold-cons true (Missing (first + k)) (line_checks k (first + k) (line_row (get_or lines k none))) refl
    (line-holds k (first + k) (get_or lines k none) (readable k none inside_lines) (omega (arith, few))))))
    (hold-cons (nat_le (length rows) count) (BadRow (first + count)) [] (le-leb (length rows) count (omega (arith, wide, is))) hold-nil)

-- all rows
pub rows-hold : (inst : InstanceData) (plan : PlanData) → HasReadableScenes inst → IsReadablePlan inst plan
    → Hold (plan_checks inst (head_rows inst plan (length plan.lines) ++ map line_row plan.lines))
rows-hold inst plan names is =
    let count : ℕ = length plan.lines in
    let behind : List Row = (codes "proof" ∷ decimal count ∷ []) ∷ map line_row plan.lines in
    let reads : number_of (decimal count) ≡ count = number_of-decimal count (omega (arith, is.few)) in
    hold-cons _ _ _ refl (hold-cons _ _ _ refl (hold-cons _ _ _ refl (hold-cons _ _ _ (is_kind-word plan.kind)
    (hold-append _ _ (five-hold inst 3 plan.status plan.cost plan.bound plan.held plan.order behind is.cost is.bound is.held is.some (are_scenes inst plan.order names is.scenes))
    (hold-cons _ _ _ refl (hold-cons _ _ _ (is_amount-decimal count (omega (arith, is.few)))
    (hold-cons _ _ _ (le-leb (number_of (decimal count)) 16_777_216 (omega (arith, reads, is.few)))
    (lines-hold 9 (number_of (decimal count)) plan.lines reads is.few is.lines))))))))
