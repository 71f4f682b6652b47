-- The text of a plan says it.
use Rattle.std.proofs.Common.{◌≡◌, ◌<◌, ◌^◌, ℕ, List, [], ◌∷◌, ◌++◌, length, map, All, Ok, refl, sym, ap, ◌∙◌, arith, codes}
use Rattle.std.specs.Fmt.{decimal}
use Rattle.std.proofs.lemmas.List.Elements.{All-map, All-nil, All-weaker}
use Rattle.std.proofs.lemmas.Simd.{map-map}
use Rattle.std.proofs.lemmas.List.Folds.{map_fixed}
use Rattle.strip_film.specs.declared.shared.Line.{Line}
use Rattle.strip_model.specs.Data.{InstanceData}
use Rattle.strip_text.specs.Field.{trimmed}
use Rattle.strip_text.specs.Number.{number_of}
use Rattle.strip_text.specs.Rows.{Row, rows_of}
use Rattle.strip_text.specs.Checks.{first_fault}
use Rattle.strip_text.proofs.Blanks.{trimmed-decimal}
use Rattle.strip_text.proofs.Numbers.{number_of-decimal}
use Rattle.strip_proof.specs.Plan.{PlanData}
use Rattle.strip_proof.specs.Rows.{bare_text, head_rows, line_row, plan_text}
use Rattle.strip_proof.specs.Format.{plan_checks}
use Rattle.strip_proof.specs.Text.{HasReadableScenes, IsReadableLine, IsReadablePlan, line_of, plan_of, reading_of, says}
use Rattle.strip_text.proofs.Back.{rows_of-written}
use Rattle.strip_proof.proofs.Texts.{by_rows, is_writable, without_lines}
use Rattle.strip_proof.proofs.back.Fields.{kind_of-word, line_of-row, status_of-word, trimmed-kind, trimmed-set, trimmed-status}
use Rattle.strip_proof.proofs.back.Held.{rows-hold}
use Rattle.strip_proof.proofs.back.Names.{scenes_of-names, trimmed-names}

abbrev written : InstanceData → PlanData → List Row
written inst plan = head_rows inst plan (length plan.lines) ++ map line_row plan.lines

-- a number that a text can say is written without blanks
trimmed-amount : (n : ℕ) → n < 2 ^ 63 → trimmed (decimal n) ≡ decimal n
trimmed-amount n small = trimmed-decimal n (omega (arith, small))

-- trimming changes no row of a line
trimmed-lines : (lines : List Line) → All IsReadableLine lines → map (map trimmed) (map line_row lines) ≡ map line_row lines
trimmed-lines lines readable =
    map_fixed (map trimmed) (map line_row lines)
    (All-map (λ (row : Row). map trimmed row ≡ row) line_row lines
    (All-weaker IsReadableLine (λ (line : Line). map trimmed (line_row line) ≡ line_row line)
    (λ line is. λ i. codes "line" ∷ trimmed-set line.set i ∷ trimmed-amount line.bound is.bound i ∷ []) lines readable))

-- nor any other row
trimmed-written : (inst : InstanceData) (plan : PlanData) → HasReadableScenes inst → IsReadablePlan inst plan → map (map trimmed) (written inst plan) ≡ written inst plan
trimmed-written inst plan names is =
    let count : trimmed (decimal (length plan.lines)) ≡ decimal (length plan.lines) = trimmed-amount (length plan.lines) (omega (arith, is.few)) in
    λ i.
    (codes "plan" ∷ codes "2" ∷ [])
    ∷ (codes "bounds" ∷ trimmed-kind plan.kind i ∷ [])
    ∷ (codes "status" ∷ trimmed-status plan.status i ∷ [])
    ∷ (codes "cost" ∷ trimmed-amount plan.cost is.cost i ∷ [])
    ∷ (codes "bound" ∷ trimmed-amount plan.bound is.bound i ∷ [])
    ∷ (codes "lines" ∷ trimmed-amount plan.held is.held i ∷ [])
    ∷ (codes "order" ∷ trimmed-names inst plan.order names is.scenes i)
    ∷ (codes "proof" ∷ count i ∷ [])
    ∷ trimmed-lines plan.lines is.lines i

rows-written : (inst : InstanceData) (plan : PlanData) → HasReadableScenes inst → IsReadablePlan inst plan → rows_of (plan_text inst plan) ≡ written inst plan
rows-written inst plan names is =
    ap rows_of (by_rows inst plan) ∙ rows_of-written (written inst plan) (is_writable inst plan) ∙ trimmed-written inst plan names is

-- a number that is written reads back
amount-back : (n : ℕ) → n < 2 ^ 63 → number_of (decimal n) ≡ n
amount-back n small = number_of-decimal n (omega (arith, small))

lines-back : (lines : List Line) → All IsReadableLine lines → map line_of (map line_row lines) ≡ lines
lines-back lines readable =
    map-map line_of line_row lines
    ∙ map_fixed (λ (line : Line). line_of (line_row line)) lines
    (All-weaker IsReadableLine (λ (line : Line). line_of (line_row line) ≡ line) (λ line is. line_of-row line is) lines readable)

-- what the rows say
plan-written : (inst : InstanceData) (plan : PlanData) → HasReadableScenes inst → IsReadablePlan inst plan → plan_of inst (written inst plan) ≡ plan
plan-written inst plan names is =
    λ i. record {
      status = status_of-word plan.status i;
      kind = kind_of-word plan.kind i;
      cost = amount-back plan.cost is.cost i;
      bound = amount-back plan.bound is.bound i;
      held = amount-back plan.held is.held i;
      order = scenes_of-names inst plan.order names is.scenes i;
      lines = lines-back plan.lines is.lines i;
    }

pub says_it : (inst : InstanceData) (plan : PlanData) → HasReadableScenes inst → IsReadablePlan inst plan → says inst (plan_text inst plan) ≡ Ok plan
says_it inst plan names is =
    ap (λ (rows : List Row). reading_of inst rows (first_fault (plan_checks inst rows))) (rows-written inst plan names is)
    ∙ ap (reading_of inst (written inst plan)) (rows-hold inst plan names is).none
    ∙ ap Ok (plan-written inst plan names is)

-- and without a proof it says the plan without lines
pub says_it_bare : (inst : InstanceData) (plan : PlanData) → HasReadableScenes inst → IsReadablePlan inst plan
    → says inst (bare_text inst plan) ≡ Ok (record plan { lines = [] })
says_it_bare inst plan names is =
    let bare : PlanData = record plan { lines = [] } in
    let readable : IsReadablePlan inst bare = record {
      scenes = is.scenes;
      some = is.some;
      cost = is.cost;
      bound = is.bound;
      held = is.held;
      few = omega arith;
      lines = All-nil IsReadableLine;
    } in
    sym (ap (says inst) (without_lines inst bare refl)) ∙ says_it inst bare names readable
