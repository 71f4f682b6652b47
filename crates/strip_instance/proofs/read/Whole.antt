-- The checks of a text from those of its parts.
use Rattle.std.proofs.Common.{◌≡◌, ◌⊎◌, ℕ, Bool, true, false, List, ◌∷◌, ◌++◌, length, drop, Option, Some, None, map, refl, ap, sym, ◌∙◌, inl, inr, arith}
use Rattle.std.proofs.lemmas.Bool.{eqb-true}
use Rattle.std.proofs.lemmas.List.{length-drop, length-map}
use Rattle.strip_model.specs.declared.pair.Pair.{Pair}
use Rattle.strip_text.specs.Number.{number_of}
use Rattle.strip_text.specs.Rows.{Row, row_of}
use Rattle.strip_text.specs.Checks.{first_fault}
use Rattle.strip_text.proofs.Held.{Hold}
use Rattle.strip_text.proofs.Passed.{held as its_check, others}
use Rattle.strip_text.proofs.Making.{makes-front, makes-past, first_fault-append}
use Rattle.strip_model.specs.Data.{SceneData, ActorData}
use Rattle.strip_instance.specs.Fault.{FaultData, Memory, BadRate, BadHold}
use Rattle.strip_instance.specs.Befores.{pairs_of}
use Rattle.strip_instance.specs.Checks.{Checks}
use Rattle.strip_instance.specs.Parts.{parts_of, hold_of, body_of, first_of, scenes_part, befores_part, actor_fields}
use Rattle.strip_instance.specs.Faults.{header_checks, pay_row_checks, rate_row_checks, hold_row_checks, scene_names, scene_rows, body_parts_checks, all_checks}
use Rattle.strip_instance.specs.Shown.{rows_from}
use Rattle.strip_instance.specs.Text.{holds_of, instance_of, paid_actors, rates_of, scene_of}

-- the fault that some checks give, or want of memory
abbrev pub Tells : FaultData → Checks → Type 0
Tells fault checks = (fault ≡ Memory) ⊎ (first_fault checks ≡ Some fault)

-- checks that are the same tell the same
pub tells-same : (fault : FaultData) (these those : Checks) → these ≡ those → Tells fault those → Tells fault these
tells-same fault these those same (inl memory) = inl memory
tells-same fault these those same (inr found) = inr (ap first_fault same ∙ found)

-- rows, of which the first is the header, what is behind it, and what is behind the rates
module _ (rows rest behind : List Row) (header : Row) (some : rows ≡ header ∷ rest) (next : behind ≡ drop 1 rest) where
  abbrev rated : Checks
  rated = rate_row_checks header (row_of rest 0)

  abbrev held : Checks
  held = hold_row_checks header (hold_of behind)

  abbrev scenes : List Row
  scenes = scenes_part (body_of behind)

  abbrev befores : List Row
  befores = befores_part (body_of behind)

  abbrev filmed : Checks
  filmed = body_parts_checks header (first_of behind) scenes befores

  all-same : all_checks rows ≡ header_checks header ++ (rated ++ held) ++ filmed
  all-same =
      ap all_checks some
      ∙ ap (λ (list : List Row). header_checks header ++ (rated ++ hold_row_checks header (hold_of list))
      ++ body_parts_checks header (first_of list) (scenes_part (body_of list)) (befores_part (body_of list))) (sym next)

  tells-all : (fault : FaultData) → Tells fault (header_checks header ++ (rated ++ held) ++ filmed) → Tells fault (all_checks rows)
  tells-all fault tells = tells-same fault _ _ all-same tells

  heads-hold : first_fault (header_checks header) ≡ None → first_fault (rated ++ held) ≡ None → first_fault (header_checks header ++ (rated ++ held)) ≡ None
  heads-hold named paid = first_fault-append (header_checks header) (rated ++ held) named ∙ paid

  -- a fault of the header
  pub header-fault : (fault : FaultData) → Tells fault (header_checks header) → Tells fault (all_checks rows)
  header-fault fault tells =
      tells-all fault (makes-front (header_checks header ++ (rated ++ held)) filmed fault (makes-front (header_checks header) (rated ++ held) fault tells))

  -- a fault of the rates or of the hold rates
  pub paid-fault : (fault : FaultData) → first_fault (header_checks header) ≡ None → Tells fault (rated ++ held) → Tells fault (all_checks rows)
  paid-fault fault named tells =
      tells-all fault (makes-front (header_checks header ++ (rated ++ held)) filmed fault (makes-past (header_checks header) (rated ++ held) fault named tells))

  -- a fault of the scenes or of the rows behind them
  pub filmed-fault : (fault : FaultData) → first_fault (header_checks header) ≡ None → first_fault (rated ++ held) ≡ None → Tells fault filmed → Tells fault (all_checks rows)
  filmed-fault fault named paid tells =
      tells-all fault (makes-past (header_checks header ++ (rated ++ held)) filmed fault (heads-hold named paid) tells)

  -- no fault
  pub no-fault : first_fault (header_checks header) ≡ None → first_fault (rated ++ held) ≡ None → first_fault filmed ≡ None → first_fault (all_checks rows) ≡ None
  no-fault named paid films =
      ap first_fault all-same
      ∙ first_fault-append (header_checks header ++ (rated ++ held)) filmed (heads-hold named paid) ∙ films

  -- the instance of the rows
  pub instance-is : (made : List SceneData) (actors : List ActorData) (pairs : List Pair)
      → made ≡ map scene_of (scene_rows scenes) → actors ≡ paid_actors header rest → pairs ≡ pairs_of (scene_names scenes) befores
      → record { scenes = made; actors = actors; pairs = pairs } ≡ instance_of (parts_of rows)
  instance-is made actors pairs filmed_so acted paired_so =
      (λ i. record { scenes = filmed_so i; actors = acted i; pairs = paired_so i })
      ∙ ap (λ (list : List Row). record {
        scenes = map scene_of (scene_rows (scenes_part (body_of list)));
        actors = paid_actors header rest;
        pairs = pairs_of (scene_names (scenes_part (body_of list))) (befores_part (body_of list));
      }) next
      ∙ ap (λ (all : List Row). instance_of (parts_of all)) (sym some)

-- a row of rates without a fault has as many rates as there are actors
pay-width : (fault : ℕ → FaultData) (header : Row) (number : ℕ) (row : Row) → Hold (pay_row_checks fault header number row)
    → length (rates_of row) ≡ length (actor_fields header)
pay-width fault header number row hold =
    omega (arith, length-map (drop 2 row) number_of, length-drop 2 row, length-drop 2 header, eqb-true (length row) (length header) (its_check _ _ _ hold))

pub rates-width : (header row : Row) → first_fault (rate_row_checks header row) ≡ None → length (rates_of row) ≡ length (actor_fields header)
rates-width header row none =
    let all : Hold (rate_row_checks header row) = record { none = none } in
    pay-width BadRate header 2 row (others _ _ _ all)

pub holds-width : (header : Row) (rates : List ℕ) (hold : Option Row) → length rates ≡ length (actor_fields header)
    → first_fault (hold_row_checks header hold) ≡ None → length (holds_of rates hold) ≡ length (actor_fields header)
holds-width header rates None wide none = wide
holds-width header rates (Some row) wide none = pay-width BadHold header 3 row (record { none = none })

-- the checks of a body are those of the rows from its first one on, which has its number where it is there
pub body-same : (there : Bool) (header row : Row) (number first : ℕ) (left body : List Row) → rows_from there row left ≡ body
    → ((there ≡ true) → number ≡ first)
    → body_parts_checks header number (scenes_part (rows_from there row left)) (befores_part (rows_from there row left))
    ≡ body_parts_checks header first (scenes_part body) (befores_part body)
body-same true header row number first left body same counted =
    ap (λ n. body_parts_checks header n (scenes_part (row ∷ left)) (befores_part (row ∷ left))) (counted refl)
    ∙ ap (λ (rows : List Row). body_parts_checks header first (scenes_part rows) (befores_part rows)) same
body-same false header row number first left body same counted =
    ap (λ (rows : List Row). body_parts_checks header first (scenes_part rows) (befores_part rows)) same
