-- The rows of a plan's text.
use Rattle.std.specs.Prelude.{ℕ, zero, suc, ◌/◌, ◌%◌, ◌^◌, List, [], ◌∷◌, ◌++◌, length, map, codes}
use Rattle.std.specs.List.{flat_map}
use Rattle.std.specs.Char.{digit_char}
use Rattle.std.specs.Fmt.{decimal}
use Rattle.strip_model.specs.declared.kind.Kind.{Kind}
use Rattle.strip_model.specs.declared.kind.Kind.TheVariants.{Plain, Pairs, Groups, Arrivals}
use Rattle.strip_model.specs.Data.{InstanceData, scene_name}
use Rattle.strip_film.specs.declared.shared.Line.{Line}
use Rattle.strip_text.specs.Field.{Field}
use Rattle.strip_text.specs.Rows.{Row, csv_row, csv_text}
use Rattle.strip_proof.specs.declared.plan.Status.{Status}
use Rattle.strip_proof.specs.declared.plan.Status.TheVariants.{Optimal, Bounded}
use Rattle.strip_proof.specs.Plan.{PlanData}

abbrev pub status_word : Status → Field
status_word Optimal = codes "optimal"
status_word Bounded = codes "bounded"

abbrev pub kind_word : Kind → Field
kind_word Plain = codes "plain"
kind_word Pairs = codes "pairs"
kind_word Groups = codes "groups"
kind_word Arrivals = codes "arrivals"

-- the last digits of a number, this many, in base 16 and lower case: the one with i others behind it is number / 16
-- ^ i mod 16
unfoldable pub hex_digits : ℕ → ℕ → Field
hex_digits zero number = []
hex_digits (suc i) number = digit_char (number / 16 ^ i % 16) ∷ hex_digits i number

-- a set as 16 digits, which are all that a mask of 64 bits has
abbrev pub set_field : ℕ → Field
set_field set = hex_digits 16 set

-- what is told of an order of the instance, the names of its scenes in shooting order, and how many line rows follow
abbrev pub head_rows : InstanceData → PlanData → ℕ → List Row
head_rows inst plan printed =
    (codes "plan" ∷ codes "2" ∷ [])
    ∷ (codes "bounds" ∷ kind_word plan.kind ∷ [])
    ∷ (codes "status" ∷ status_word plan.status ∷ [])
    ∷ (codes "cost" ∷ decimal plan.cost ∷ [])
    ∷ (codes "bound" ∷ decimal plan.bound ∷ [])
    ∷ (codes "lines" ∷ decimal plan.held ∷ [])
    ∷ (codes "order" ∷ map (scene_name inst) plan.order)
    ∷ (codes "proof" ∷ decimal printed ∷ [])
    ∷ []

abbrev pub line_row : Line → Row
line_row line = codes "line" ∷ set_field line.set ∷ decimal line.bound ∷ []

-- the line rows, one after the other
abbrev pub lines_text : List Line → List ℕ
lines_text lines = flat_map (λ line. csv_row (line_row line)) lines

-- a plan with its proof: the head rows, and a row for each line
abbrev pub plan_text : InstanceData → PlanData → List ℕ
plan_text inst plan = csv_text (head_rows inst plan (length plan.lines)) ++ lines_text plan.lines

-- a plan without a proof: the head rows alone
abbrev pub bare_text : InstanceData → PlanData → List ℕ
bare_text inst plan = csv_text (head_rows inst plan 0)
