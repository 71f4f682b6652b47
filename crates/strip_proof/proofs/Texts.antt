-- The rows of a plan's text.
use Rattle.std.proofs.Common.{◌≡◌, ◌≢◌, ℕ, List, [], ◌++◌, length, map, All, codes, refl, subst, sym, ap, ◌∙◌}
use Rattle.std.proofs.lemmas.Grind.{flat_map-append}
use Rattle.std.proofs.lemmas.List.{append-nil}
use Rattle.std.proofs.lemmas.List.Elements.{All-append, All-from_recursion, All-map}
use Rattle.std.proofs.lemmas.List.Folds.{flat_map-map}
use Rattle.csv.specs.Writing.{fields_text, is_blank}
use Rattle.csv.specs.Reading.{strip_bom}
use Rattle.strip_model.specs.Data.{InstanceData}
use Rattle.strip_text.specs.Rows.{Row, csv_row, csv_text, IsWritable}
use Rattle.strip_text.proofs.Unmarked.{unmarked-byte}
use Rattle.strip_proof.specs.Plan.{PlanData}
use Rattle.strip_proof.specs.Rows.{head_rows, line_row, plan_text, bare_text}

abbrev HasField : Row → Type 0
HasField row = row ≢ []

pub begins : (inst : InstanceData) (plan : PlanData) → (rest : List ℕ) × (plan_text inst plan ≡ codes "plan,2\n" ++ rest)
unfolding fields_text is_blank
begins inst plan = (_, refl)

pub by_rows : (inst : InstanceData) (plan : PlanData) → plan_text inst plan ≡ csv_text (head_rows inst plan (length plan.lines) ++ map line_row plan.lines)
by_rows inst plan =
    ap (λ (lines : List ℕ). csv_text (head_rows inst plan (length plan.lines)) ++ lines) (sym (flat_map-map csv_row line_row plan.lines))
    ∙ sym (flat_map-append csv_row (head_rows inst plan (length plan.lines)) (map line_row plan.lines))

-- each row begins with a word
some_fields : (inst : InstanceData) (plan : PlanData) → All (λ (row : Row). row ≢ []) (head_rows inst plan (length plan.lines) ++ map line_row plan.lines)
some_fields inst plan =
    All-append HasField (head_rows inst plan (length plan.lines)) (map line_row plan.lines)
    (All-from_recursion HasField (head_rows inst plan (length plan.lines))
    (λ is. cc is, (λ is. cc is, (λ is. cc is, (λ is. cc is, (λ is. cc is, (λ is. cc is, (λ is. cc is, (λ is. cc is, tt)))))))))
    (All-map HasField line_row plan.lines (λ k line lt is. cc is))

unmarked : (inst : InstanceData) (plan : PlanData) (rest : List ℕ) → plan_text inst plan ≡ codes "plan,2\n" ++ rest
    → strip_bom (plan_text inst plan) ≡ plan_text inst plan
unmarked inst plan rest is = rw is (unmarked-byte 112 (codes "lan,2\n" ++ rest) refl)

pub is_writable : (inst : InstanceData) (plan : PlanData) → IsWritable (head_rows inst plan (length plan.lines) ++ map line_row plan.lines)
is_writable inst plan = record {
  some = some_fields inst plan;
  unmarked = subst (λ (text : List ℕ). strip_bom text ≡ text) (by_rows inst plan) (unmarked inst plan (begins inst plan).0 (begins inst plan).1);
}

pub without_lines : (inst : InstanceData) (plan : PlanData) → plan.lines ≡ [] → plan_text inst plan ≡ bare_text inst plan
without_lines inst plan none = rw none (append-nil (bare_text inst plan))
