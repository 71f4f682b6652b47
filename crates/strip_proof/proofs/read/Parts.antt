-- The checks of a plan text from those of its parts, read one after the other.
use Rattle.std.proofs.Common.{◌≡◌, ◌+◌, ◌-◌, ℕ, List, [], ◌∷◌, ◌++◌, length, map, drop, get_or, codes, None, sym, ap, ◌∙◌, subst, arith}
use Rattle.std.specs.Str.{bytes_eq}
use Rattle.std.proofs.lemmas.List.{drop-drop, get_or-drop, length-drop}
use Rattle.strip_model.specs.declared.kind.Kind.{Kind}
use Rattle.strip_film.specs.declared.shared.Line.{Line}
use Rattle.strip_model.specs.Data.{InstanceData}
use Rattle.strip_text.specs.Number.{number_of}
use Rattle.strip_text.specs.Rows.{Row}
use Rattle.strip_text.specs.Checks.{first_fault}
use Rattle.strip_text.proofs.Making.{first_fault-append, makes-front, makes-past}
use Rattle.strip_proof.specs.declared.fault.PlanFault.{PlanFault}
use Rattle.strip_proof.specs.Plan.{PlanData}
use Rattle.strip_proof.specs.Field.{is_amount, is_kind, is_status, kind_of}
use Rattle.strip_proof.specs.Faults.{Checks, count_checks, due, is_pair, lines_checks, order_checks, plan_row_checks, row_is}
use Rattle.strip_proof.specs.Format.{checks_in, first_format, second_format, value_of}
use Rattle.strip_proof.specs.Text.{head_of, line_of, plan_in}
use Rattle.strip_proof.proofs.read.Lines.{Tells}

-- two parts of checks: a fault of the one, and one of the other
pub here : (xs ys : Checks) (fault : PlanFault) → Tells fault xs → Tells fault (xs ++ ys)
here xs ys fault tells = makes-front xs ys fault tells

pub past : (xs ys : Checks) (fault : PlanFault) → first_fault xs ≡ None → Tells fault ys → Tells fault (xs ++ ys)
past xs ys fault none tells = makes-past xs ys fault none tells

pub both : (xs ys : Checks) → first_fault xs ≡ None → first_fault ys ≡ None → first_fault (xs ++ ys) ≡ None
both xs ys none nothing = first_fault-append xs ys none ∙ nothing

pub tells-same : (fault : PlanFault) (these those : Checks) → these ≡ those → Tells fault those → Tells fault these
tells-same fault these those same tells = subst (Tells fault) (sym same) tells

-- the five rows of every plan: the first, and what is left before each of the others
module _ (inst : InstanceData) (first : ℕ) (row : Row) (left0 left1 left2 left3 : List Row) (next1 : left1 ≡ drop 1 left0) (next2 : left2 ≡ drop 1 left1) (next3 : left3 ≡ drop 1 left2) where
  abbrev status : Checks
  status = due first (row_is (is_pair (codes "status") is_status)) (row ∷ left0)

  abbrev cost : Checks
  cost = due (first + 1) (row_is (is_pair (codes "cost") is_amount)) left0

  abbrev bound : Checks
  bound = due (first + 2) (row_is (is_pair (codes "bound") is_amount)) left1

  abbrev held : Checks
  held = due (first + 3) (row_is (is_pair (codes "lines") is_amount)) left2

  abbrev order : Checks
  order = due (first + 4) (order_checks inst) left3

  abbrev from_held : Checks
  from_held = held ++ order

  abbrev from_bound : Checks
  from_bound = bound ++ from_held

  abbrev from_cost : Checks
  from_cost = cost ++ from_bound

  third : left2 ≡ drop 2 left0
  third = next2 ∙ ap (λ (rows : List Row). drop 1 rows) next1 ∙ drop-drop 1 1 left0

  fourth : left3 ≡ drop 3 left0
  fourth = next3 ∙ ap (λ (rows : List Row). drop 1 rows) third ∙ drop-drop 1 2 left0

  five-same : plan_row_checks inst first (row ∷ left0) ≡ status ++ from_cost
  five-same = sym (λ i.
      status ++ cost
      ++ due (first + 2) (row_is (is_pair (codes "bound") is_amount)) (next1 i)
      ++ due (first + 3) (row_is (is_pair (codes "lines") is_amount)) (third i)
      ++ due (first + 4) (order_checks inst) (fourth i))

  pub bound-fault : (fault : PlanFault) → first_fault status ≡ None → first_fault cost ≡ None → Tells fault bound
      → Tells fault (plan_row_checks inst first (row ∷ left0))
  bound-fault fault no_status no_cost tells =
      tells-same fault (plan_row_checks inst first (row ∷ left0)) (status ++ from_cost) five-same
      (past status from_cost fault no_status (past cost from_bound fault no_cost (here bound from_held fault tells)))

  pub held-fault : (fault : PlanFault) → first_fault status ≡ None → first_fault cost ≡ None → first_fault bound ≡ None → Tells fault held
      → Tells fault (plan_row_checks inst first (row ∷ left0))
  held-fault fault no_status no_cost no_bound tells =
      tells-same fault (plan_row_checks inst first (row ∷ left0)) (status ++ from_cost) five-same
      (past status from_cost fault no_status (past cost from_bound fault no_cost (past bound from_held fault no_bound (here held order fault tells))))

  pub order-fault : (fault : PlanFault) → first_fault status ≡ None → first_fault cost ≡ None → first_fault bound ≡ None → first_fault held ≡ None → Tells fault order
      → Tells fault (plan_row_checks inst first (row ∷ left0))
  order-fault fault no_status no_cost no_bound no_held tells =
      tells-same fault (plan_row_checks inst first (row ∷ left0)) (status ++ from_cost) five-same
      (past status from_cost fault no_status (past cost from_bound fault no_cost (past bound from_held fault no_bound (past held order fault no_held tells))))

  pub no-fault : first_fault status ≡ None → first_fault cost ≡ None → first_fault bound ≡ None → first_fault held ≡ None → first_fault order ≡ None
      → first_fault (plan_row_checks inst first (row ∷ left0)) ≡ None
  no-fault no_status no_cost no_bound no_held no_order =
      ap first_fault five-same
      ∙ both status from_cost no_status (both cost from_bound no_cost (both bound from_held no_bound (both held order no_held no_order)))

-- the first format: what is left behind the five rows
module _ (inst : InstanceData) (row : Row) (left0 left1 : List Row) (next : left1 ≡ drop 4 left0) where
  abbrev rows_one : List Row
  rows_one = row ∷ left0

  abbrev whole_one : Checks
  whole_one = checks_in inst rows_one (first_format rows_one)

  abbrev five_one : Checks
  five_one = plan_row_checks inst 1 rows_one

  abbrev lines_one : Checks
  lines_one = lines_checks 6 (length left1) left1

  first-same : whole_one ≡ five_one ++ lines_one
  first-same =
      let count : length left1 ≡ length rows_one - 5 = omega (arith, ap length next, length-drop 4 left0) in
      sym (λ i. five_one ++ lines_checks 6 (count i) (next i))

  pub first-lines-fault : (fault : PlanFault) → first_fault five_one ≡ None → Tells fault lines_one → Tells fault whole_one
  first-lines-fault fault no_five tells = tells-same fault whole_one (five_one ++ lines_one) first-same (past five_one lines_one fault no_five tells)

  pub first-no-fault : first_fault five_one ≡ None → first_fault lines_one ≡ None → first_fault whole_one ≡ None
  first-no-fault no_five no_lines = ap first_fault first-same ∙ both five_one lines_one no_five no_lines

-- the second format: what is left behind the row of the bounds, the first of the five, all five, and the row that counts the lines
module _ (inst : InstanceData) (row : Row) (left0 left1 : List Row) (next1 : left1 ≡ drop 1 left0) where
  abbrev rows_two : List Row
  rows_two = row ∷ left0

  abbrev whole_two : Checks
  whole_two = checks_in inst rows_two (second_format rows_two)

  abbrev front : Checks
  front = due 1 (row_is (is_pair (codes "plan") (λ value. bytes_eq value (codes "2")))) rows_two ++ due 2 (row_is (is_pair (codes "bounds") is_kind)) left0

  abbrev five_two : Checks
  five_two = plan_row_checks inst 3 left1

  abbrev counts : Checks
  counts = due 8 count_checks (drop 6 left0)

  abbrev lines_two : Checks
  lines_two = lines_checks 9 (number_of (value_of left0 6)) (drop 7 left0)

  second-same : whole_two ≡ front ++ five_two ++ counts ++ lines_two
  second-same = sym (λ i. front ++ plan_row_checks inst 3 (next1 i) ++ counts ++ lines_two)

  -- a fault of the five rows, of the row behind them, and of the lines
  pub five-fault : (fault : PlanFault) → first_fault front ≡ None → Tells fault five_two → Tells fault whole_two
  five-fault fault no_front tells =
      tells-same fault whole_two (front ++ five_two ++ counts ++ lines_two) second-same
      (past front (five_two ++ counts ++ lines_two) fault no_front (here five_two (counts ++ lines_two) fault tells))

  counts-fault : (fault : PlanFault) → first_fault front ≡ None → first_fault five_two ≡ None → Tells fault counts → Tells fault whole_two
  counts-fault fault no_front no_five tells =
      tells-same fault whole_two (front ++ five_two ++ counts ++ lines_two) second-same
      (past front (five_two ++ counts ++ lines_two) fault no_front (past five_two (counts ++ lines_two) fault no_five (here counts lines_two fault tells)))

  lines-fault : (fault : PlanFault) → first_fault front ≡ None → first_fault five_two ≡ None → first_fault counts ≡ None → Tells fault lines_two → Tells fault whole_two
  lines-fault fault no_front no_five no_counts tells =
      tells-same fault whole_two (front ++ five_two ++ counts ++ lines_two) second-same
      (past front (five_two ++ counts ++ lines_two) fault no_front (past five_two (counts ++ lines_two) fault no_five (past counts lines_two fault no_counts tells)))

  none-two : first_fault front ≡ None → first_fault five_two ≡ None → first_fault counts ≡ None → first_fault lines_two ≡ None → first_fault whole_two ≡ None
  none-two no_front no_five no_counts no_lines =
      ap first_fault second-same
      ∙ both front (five_two ++ counts ++ lines_two) no_front (both five_two (counts ++ lines_two) no_five (both counts lines_two no_counts no_lines))

  -- the first of the five rows, and so many rows behind them
  module _ (row3 : Row) (left2 left3 : List Row) (there : left1 ≡ row3 ∷ left2) (next3 : left3 ≡ drop 4 left2) where
    abbrev five_read : Checks
    five_read = plan_row_checks inst 3 (row3 ∷ left2)

    abbrev counts_read : Checks
    counts_read = due 8 count_checks left3

    five_is : five_two ≡ five_read
    five_is = ap (plan_row_checks inst 3) there

    behind_five : left3 ≡ drop 6 left0
    behind_five = next3 ∙ ap (λ (rows : List Row). drop 5 rows) (sym there ∙ next1) ∙ drop-drop 5 1 left0

    counts_is : counts ≡ counts_read
    counts_is = ap (λ (rows : List Row). due 8 count_checks rows) (sym behind_five)

    pub five-read-fault : (fault : PlanFault) → first_fault front ≡ None → Tells fault five_read → Tells fault whole_two
    five-read-fault fault no_front tells = five-fault fault no_front (tells-same fault five_two five_read five_is tells)

    pub counts-read-fault : (fault : PlanFault) → first_fault front ≡ None → first_fault five_read ≡ None → Tells fault counts_read → Tells fault whole_two
    counts-read-fault fault no_front no_five tells =
        counts-fault fault no_front (ap first_fault five_is ∙ no_five) (tells-same fault counts counts_read counts_is tells)

    -- and so many rows behind the row that counts the lines
    module _ (count : ℕ) (left4 : List Row) (count_is : count ≡ number_of (value_of left3 0)) (next4 : left4 ≡ drop 1 left3) where
      abbrev lines_read : Checks
      lines_read = lines_checks 9 count left4

      pub behind_counts : left4 ≡ drop 7 left0
      behind_counts = next4 ∙ ap (λ (rows : List Row). drop 1 rows) behind_five ∙ drop-drop 1 6 left0

      number : count ≡ number_of (value_of left0 6)
      number =
          count_is ∙ ap (λ (rows : List Row). number_of (value_of rows 0)) behind_five
          ∙ ap (λ (r : Row). number_of (get_or r 1 [])) (get_or-drop 6 left0 0 [])

      lines_is : lines_two ≡ lines_read
      lines_is = sym (λ i. lines_checks 9 (number i) (behind_counts i))

      pub lines-read-fault : (fault : PlanFault) → first_fault front ≡ None → first_fault five_read ≡ None → first_fault counts_read ≡ None → Tells fault lines_read
          → Tells fault whole_two
      lines-read-fault fault no_front no_five no_counts tells =
          lines-fault fault no_front (ap first_fault five_is ∙ no_five) (ap first_fault counts_is ∙ no_counts) (tells-same fault lines_two lines_read lines_is tells)

      pub second-no-fault : first_fault front ≡ None → first_fault five_read ≡ None → first_fault counts_read ≡ None → first_fault lines_read ≡ None
          → first_fault whole_two ≡ None
      second-no-fault no_front no_five no_counts no_lines =
          none-two no_front (ap first_fault five_is ∙ no_five) (ap first_fault counts_is ∙ no_counts) (ap first_fault lines_is ∙ no_lines)

      -- the plan of the rows
      pub second-plan : (kind : Kind) (head : PlanData) (lines : List Line) → kind ≡ kind_of (value_of left0 0)
          → head ≡ head_of inst kind (row3 ∷ left2) → lines ≡ map line_of left4
          → record head { lines = lines } ≡ plan_in inst rows_two (second_format rows_two)
      second-plan kind head lines kind_is head_is lines_are =
          (λ i. record (head_is i) { lines = (lines_are ∙ ap (λ (rows : List Row). map line_of rows) behind_counts) i })
          ∙ (λ i. record (head_of inst (kind_is i) ((sym there ∙ next1) i)) { lines = map line_of (drop 7 left0) })
