-- A plan that a text says is one that a text can say.
use Rattle.std.proofs.Common.{◌≡◌, ◌≢◌, ◌≤◌, ◌<◌, ◌+◌, ◌^◌, ℕ, zero, suc, true, ◌&&◌, List, [], ◌∷◌, ◌++◌, length, map, drop, get_or, All, codes, nat_le, nat_lt, Option, None, Some, Result, Ok, Err, IfOk, refl, sym, ap, ◌∙◌, subst, arith}
use Rattle.std.specs.Char.{is_ascii_hexdigit}
use Rattle.std.specs.List.{list_all}
use Rattle.std.specs.Str.Parse.{AllDigits}
use Rattle.std.proofs.Math.Nat.{pow-le-pow_right}
use Rattle.std.proofs.lemmas.Bool.{leb-true, ltb-true}
use Rattle.std.proofs.lemmas.Int.Digits.{digits_value-lt}
use Rattle.std.proofs.lemmas.List.{get_or-drop, length-drop, length-map}
use Rattle.std.proofs.lemmas.List.Elements.{All-from_get_or, All-map}
use Rattle.std.proofs.lemmas.List.Sums.{AllPass-from_list_all}
use Rattle.strip_model.specs.Data.{InstanceData}
use Rattle.strip_text.specs.Field.{Field}
use Rattle.strip_text.specs.Rows.{Row, field_of, rows_of, row_of}
use Rattle.strip_text.specs.Checks.{below, checks_of_one, first_fault}
use Rattle.strip_text.proofs.Digits.{and-left, and-right}
use Rattle.strip_text.proofs.Held.{Hold}
use Rattle.strip_text.proofs.Passed.{back, front, held as its_check, held-below, others}
use Rattle.strip_proof.specs.declared.fault.PlanFault.{PlanFault}
use Rattle.strip_proof.specs.declared.fault.PlanFault.TheVariants.{BadRow, Missing, TooManyLines, UnknownScene}
use Rattle.strip_proof.specs.declared.plan.Plan.{Plan}
use Rattle.strip_proof.specs.Plan.{PlanData, plan_data}
use Rattle.strip_proof.specs.Field.{is_amount, is_scene, is_set, is_status, scene_of, set_of}
use Rattle.strip_proof.specs.Faults.{Checks, Makes, begins, due, has_row, is_line_row, is_order_row, is_pair, line_checks, line_due, lines_checks, order_checks, plan_row_checks, row_is}
use Rattle.strip_proof.specs.Format.{Format, checks_in, format_of, plan_checks, value_of}
use Rattle.strip_proof.specs.Text.{IsReadableLine, IsReadablePlan, line_of, plan_in, plan_of, reading_of, says}
use Rattle.strip_text.specs.Number.{number_of}
use Rattle.strip_proof.proofs.read.SetDigits.{digit_below}

-- a number that a text can say is below 2 ^ 63
pub amount_small : (field : Field) → is_amount field ≡ true → number_of field < 2 ^ 63
amount_small field is = omega (arith, leb-true (number_of field) 9_223_372_036_854_775_807 (and-right _ _ is))

-- a set has at most 16 digits
all_digits : (field : Field) → list_all is_ascii_hexdigit field ≡ true → AllDigits 16 field
all_digits [] all = tt
all_digits (byte ∷ bytes) all = (digit_below byte (and-left _ _ all), all_digits bytes (and-right (is_ascii_hexdigit byte) _ all))

pub set_small : (field : Field) → is_set field ≡ true → set_of field < 2 ^ 64
set_small field is =
    let short : length field ≤ 16 = leb-true (length field) 16 (and-right (nat_le 1 (length field)) _ (and-left (nat_le 1 (length field) && nat_le (length field) 16) (list_all is_ascii_hexdigit field) is)) in
    let most : 16 ^ length field ≤ 16 ^ 16 = pow-le-pow_right {n = 16} (omega arith) {i = length field} {j = 16} short in
    omega (arith, most, digits_value-lt 16 field (all_digits field (and-right _ _ is)))

-- a row of a word and a number
pair-amount : (number : ℕ) (word : Field) (rows : List Row) → Hold (due number (row_is (is_pair word is_amount)) rows) → number_of (value_of rows 0) < 2 ^ 63
pair-amount number word rows hold =
    amount_small (value_of rows 0)
    (and-right (begins word 2 (row_of rows 0)) (is_amount (value_of rows 0))
    (its_check (is_pair word is_amount (row_of rows 0)) (BadRow number) [] (others (has_row rows) (Missing number) (row_is (is_pair word is_amount) number (row_of rows 0)) hold)))

-- the row of the order
order-row : (inst : InstanceData) (number : ℕ) (rows : List Row) → Hold (due number (order_checks inst) rows) → Hold (order_checks inst number (row_of rows 0))
order-row inst number rows hold = others (has_row rows) (Missing number) (order_checks inst number (row_of rows 0)) hold

order-scenes : (inst : InstanceData) (number : ℕ) (row : Row) → Hold (order_checks inst number row) → All (λ scene. scene < length inst.scenes) (map (scene_of inst) (drop 1 row))
order-scenes inst number row hold =
    let known : list_all (is_scene inst) (drop 1 row) ≡ true
    = its_check _ (UnknownScene number) [] (others (is_order_row row) (BadRow number) (checks_of_one (list_all (is_scene inst) (drop 1 row)) (UnknownScene number)) hold) in
    All-map (λ scene. scene < length inst.scenes) (scene_of inst) (drop 1 row)
    (λ k d within. ltb-true (scene_of inst _) (length inst.scenes) (AllPass-from_list_all (is_scene inst) (drop 1 row) known k d within))

order-some : (inst : InstanceData) (number : ℕ) (row : Row) → Hold (order_checks inst number row) → map (scene_of inst) (drop 1 row) ≢ []
order-some inst number row hold none =
    let two : 2 ≤ length row
    = leb-true 2 (length row) (and-left _ _ (its_check (is_order_row row) (BadRow number) (checks_of_one (list_all (is_scene inst) (drop 1 row)) (UnknownScene number)) hold)) in
    omega (arith, ap length none, length-map (drop 1 row) (scene_of inst), length-drop 1 row)

-- the row of a line
line-of : (before number : ℕ) (row : Row) → Hold (line_checks before number row) → IsReadableLine (line_of row)
line-of before number row hold =
    let is : is_line_row row ≡ true = its_check (is_line_row row) (BadRow number) _ hold in
    record {
      set = set_small (field_of row 1) (and-right _ _ (and-left _ (is_amount (field_of row 2)) is));
      bound = amount_small (field_of row 2) (and-right _ _ is);
    }

line-few : (before number : ℕ) (row : Row) → Hold (line_checks before number row) → before < 16_777_216
line-few before number row hold =
    ltb-true before 16_777_216 (its_check _ TooManyLines [] (others (is_line_row row) (BadRow number) (checks_of_one (nat_lt before 16_777_216) TooManyLines) hold))

-- the line rows
module _ (first count : ℕ) (rows : List Row) (hold : Hold (lines_checks first count rows)) where
  none_more : length rows ≤ count
  none_more = leb-true (length rows) count (its_check _ _ [] (back (below count (line_due first rows)) (checks_of_one (nat_le (length rows) count) (BadRow (first + count))) hold))

  each : (k : ℕ) → k < length rows → Hold (line_checks k (first + k) (row_of (drop k rows) 0))
  each k within =
      let all = front (below count (line_due first rows)) (checks_of_one (nat_le (length rows) count) (BadRow (first + count))) hold in
      others (has_row (drop k rows)) (Missing (first + k)) (line_checks k (first + k) (row_of (drop k rows) 0))
      (held-below count (line_due first rows) k (omega (arith, none_more)) all)

  lines_few : length rows ≤ 16_777_216
  lines_few = by_length (length rows) refl
    where
      by_length : (n : ℕ) → n ≡ length rows → n ≤ 16_777_216
      by_length zero is = omega arith
      by_length (suc k) is = omega (arith, line-few k (first + k) (row_of (drop k rows) 0) (each k (omega (arith, is))))

  lines_readable : All IsReadableLine (map line_of rows)
  lines_readable =
      All-map IsReadableLine line_of rows
      (All-from_get_or (λ (row : Row). IsReadableLine (line_of row)) rows [] (λ k within.
      let place : k + 0 ≡ k = omega arith in
      let is : row_of (drop k rows) 0 ≡ get_or rows k [] = get_or-drop k rows 0 [] ∙ ap (λ (n : ℕ). get_or rows n []) place in
      subst (λ (row : Row). IsReadableLine (line_of row)) is (line-of k (first + k) (row_of (drop k rows) 0) (each k within))))

-- the five rows
module _ (inst : InstanceData) (first : ℕ) (rows : List Row) (hold : Hold (plan_row_checks inst first rows)) where
  abbrev cost : Checks
  cost = due (first + 1) (row_is (is_pair (codes "cost") is_amount)) (drop 1 rows)

  abbrev bound : Checks
  bound = due (first + 2) (row_is (is_pair (codes "bound") is_amount)) (drop 2 rows)

  abbrev held : Checks
  held = due (first + 3) (row_is (is_pair (codes "lines") is_amount)) (drop 3 rows)

  abbrev order : Checks
  order = due (first + 4) (order_checks inst) (drop 4 rows)

  abbrev status : Checks
  status = due first (row_is (is_pair (codes "status") is_status)) rows

  to_held : Hold (status ++ cost ++ bound ++ held)
  to_held = front (status ++ cost ++ bound ++ held) order hold

  order_hold : Hold (order_checks inst (first + 4) (row_of (drop 4 rows) 0))
  order_hold = order-row inst (first + 4) (drop 4 rows) (back (status ++ cost ++ bound ++ held) order hold)

  held_hold : Hold held
  held_hold = back (status ++ cost ++ bound) held to_held

  bound_hold : Hold bound
  bound_hold = back (status ++ cost) bound (front (status ++ cost ++ bound) held to_held)

  cost_hold : Hold cost
  cost_hold = back status cost (front (status ++ cost) bound (front (status ++ cost ++ bound) held to_held))

-- the value and the row at a place, by the rows from there on
at-place : (rows : List Row) (place : ℕ) → row_of (drop place rows) 0 ≡ row_of rows place
at-place rows place =
    let same : place + 0 ≡ place = omega arith in
    get_or-drop place rows 0 [] ∙ ap (λ (n : ℕ). get_or rows n []) same

amount-at : (rows : List Row) (place : ℕ) → number_of (value_of (drop place rows) 0) < 2 ^ 63 → number_of (value_of rows place) < 2 ^ 63
amount-at rows place small = subst (λ (row : Row). number_of (field_of row 1) < 2 ^ 63) (at-place rows place) small

-- a plan that rows without a fault say
in-format : (inst : InstanceData) (rows : List Row) (format : Format) → Hold (checks_in inst rows format) → IsReadablePlan inst (plan_in inst rows format)
in-format inst rows format hold =
    let first : ℕ = format.before + 1 in
    let five : List Row = drop format.before rows in
    let left : List Row = drop format.heads rows in
    let heads : Checks = format.front ++ plan_row_checks inst first five ++ format.back in
    let lines : Checks = lines_checks (format.heads + 1) format.lines left in
    let all : Hold (plan_row_checks inst first five)
    = back format.front (plan_row_checks inst first five) (front (format.front ++ plan_row_checks inst first five) format.back (front heads lines hold)) in
    let of_lines : Hold lines = back heads lines hold in
    let row : Hold (order_checks inst (first + 4) (row_of five 4))
    = subst (λ (r : Row). Hold (order_checks inst (first + 4) r)) (at-place five 4) (order_hold inst first five all) in
    record {
      scenes = order-scenes inst (first + 4) (row_of five 4) row;
      some = order-some inst (first + 4) (row_of five 4) row;
      cost = amount-at five 1 (pair-amount (first + 1) (codes "cost") (drop 1 five) (cost_hold inst first five all));
      bound = amount-at five 2 (pair-amount (first + 2) (codes "bound") (drop 2 five) (bound_hold inst first five all));
      held = amount-at five 3 (pair-amount (first + 3) (codes "lines") (drop 3 five) (held_hold inst first five all));
      few = omega (arith, length-map left line_of, lines_few (format.heads + 1) format.lines left of_lines);
      lines = lines_readable (format.heads + 1) format.lines left of_lines;
    }

pub readable : (inst : InstanceData) (rows : List Row) → first_fault (plan_checks inst rows) ≡ None → IsReadablePlan inst (plan_of inst rows)
readable inst rows none = in-format inst rows (format_of rows) (record { none = none })

-- so is what a reader answers
pub read-readable : (inst : InstanceData) (rows : List Row) (made : Result Plan PlanFault) → Makes (plan_checks inst rows) made
    → IfOk made (λ plan. plan_data plan ≡ plan_of inst rows) → IfOk made (λ plan. IsReadablePlan inst (plan_data plan))
read-readable inst rows (Ok plan) none is = subst (IsReadablePlan inst) (sym is) (readable inst rows none)
read-readable inst rows (Err fault) makes is = tt

-- a text that says a plan has no fault
pub said-readable : (inst : InstanceData) (text : List ℕ) (plan : PlanData) → says inst text ≡ Ok plan → IsReadablePlan inst plan
said-readable inst text plan is = by_fault (first_fault (plan_checks inst (rows_of text))) refl is
  where
    by_fault : (found : Option PlanFault) → first_fault (plan_checks inst (rows_of text)) ≡ found → reading_of inst (rows_of text) found ≡ Ok plan → IsReadablePlan inst plan
    by_fault None none is =
        let same : plan_of inst (rows_of text) ≡ plan = cc is in
        subst (IsReadablePlan inst) same (readable inst (rows_of text) none)
    by_fault (Some fault) found is = cc is
