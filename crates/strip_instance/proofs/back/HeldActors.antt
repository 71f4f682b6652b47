-- The rows of a canonical text before those of the scenes have no fault.
use Rattle.std.proofs.Common.{◌≡◌, ◌≢◌, ℕ, ◌<◌, ◌≤◌, Bool, true, false, codes, Some, None, if◌then◌else◌, List, [], length, map, All, refl, sym, ◌∙◌, arith}
use Rattle.std.specs.List.{AllPairs}
use Rattle.std.specs.Fmt.{decimal}
use Rattle.std.proofs.lemmas.Bool.{lt-ltb, eq-eqb, not_from_false}
use Rattle.std.proofs.lemmas.List.{length-map}
use Rattle.std.proofs.lemmas.List.Elements.{All-get_or, All-map, All-weaker}
use Rattle.strip_model.specs.Data.{ActorData, IsActor}
use Rattle.strip_text.specs.Field.{Field}
use Rattle.strip_text.specs.Number.{is_number}
use Rattle.strip_text.proofs.Held.{Hold, hold-nil, hold-cons, hold-below}
use Rattle.strip_text.proofs.Numbers.{is_number-decimal}
use Rattle.strip_instance.specs.Field.{is_name}
use Rattle.strip_instance.specs.Faults.{actor_name_checks, header_checks, pay_row_checks, rate_row_checks, hold_row_checks}
use Rattle.strip_instance.proofs.back.TextNames.{IsTextName}
use Rattle.strip_instance.specs.Canonical.{header_fields, pay_fields, rate_fields, hold_fields}
use Rattle.strip_instance.proofs.back.ReadableNames.{pairs-map, not_contained-before}
use Rattle.strip_instance.specs.Fault.{FaultData, BadRate, BadHold}

-- the checks of one actor's name
actor_name_holds : (names : List Field) (actor : ℕ) → length names ≤ 64 → actor < length names
    → All (IsTextName is_name) names → AllPairs (λ a b. a ≢ b) names → Hold (actor_name_checks names actor)
actor_name_holds names actor few within readable differ =
    let name : IsTextName is_name _ = All-get_or (IsTextName is_name) names actor [] within readable in
    hold-cons _ _ _ (lt-ltb actor 64 (omega arith))
    (hold-cons _ _ _ name.text
    (hold-cons _ _ _ name.readable.passes
    (hold-cons _ _ _ (not_from_false _ (not_contained-before names actor differ within)) hold-nil)))

-- the header
pub header_holds : (actors : List ActorData) → length actors ≤ 64
    → All (λ actor. IsTextName is_name actor.name) actors → AllPairs (λ a b. a.name ≢ b.name) actors
    → Hold (header_checks (header_fields actors))
header_holds actors few readable differ =
    let names = map (λ (actor : ActorData). actor.name) actors in
    let few_names : length names ≤ 64 = omega (arith, length-map actors (λ (actor : ActorData). actor.name)) in
    hold-cons _ _ _ refl (hold-below (length names) (actor_name_checks names) (λ actor within.
    actor_name_holds names actor few_names within (All-map (IsTextName is_name) (λ actor. actor.name) actors readable)
    (pairs-map (λ actor. actor.name) actors differ)))

-- a row of rates within the limits
pay_row_holds : (fault : ℕ → FaultData) (number : ℕ) (word : Field) (rate : ActorData → ℕ) (actors : List ActorData)
    → All (λ actor. rate actor ≤ 1_000_000_000) actors → Hold (pay_row_checks fault (header_fields actors) number (pay_fields word rate actors))
pay_row_holds fault number word rate actors limits =
    let rates = map (λ (actor : ActorData). decimal (rate actor)) actors in
    let names = map (λ (actor : ActorData). actor.name) actors in
    let width : length rates ≡ length names = length-map actors (λ (actor : ActorData). decimal (rate actor)) ∙ sym (length-map actors (λ (actor : ActorData). actor.name)) in
    let each : All (λ field. is_number 0 1_000_000_000 field ≡ true) rates
    = All-map (λ field. is_number 0 1_000_000_000 field ≡ true) (λ actor. decimal (rate actor)) actors
    (All-weaker (λ actor. rate actor ≤ 1_000_000_000) (λ actor. is_number 0 1_000_000_000 (decimal (rate actor)) ≡ true)
    (λ actor low. is_number-decimal 0 1_000_000_000 (rate actor) (omega arith) low (omega (arith, low))) actors limits) in
    hold-cons _ _ _ (eq-eqb (length (pay_fields word rate actors)) (length (header_fields actors)) (omega (arith, width)))
    (hold-below (length rates) _ (λ actor within.
    hold-cons _ _ _ (All-get_or (λ field. is_number 0 1_000_000_000 field ≡ true) rates actor [] within each) hold-nil))

-- the rates
pub rates_hold : (actors : List ActorData) → All IsActor actors → Hold (rate_row_checks (header_fields actors) (rate_fields actors))
rates_hold actors limits =
    hold-cons _ _ _ refl (pay_row_holds BadRate 2 (codes "rate") (λ actor. actor.rate) actors
    (All-weaker IsActor (λ actor. actor.rate ≤ 1_000_000_000) (λ actor is. is.rate) actors limits))

-- the hold rates, where there is a row of them
pub holds_hold : (own : Bool) (actors : List ActorData) → All IsActor actors
    → Hold (hold_row_checks (header_fields actors) (if own then Some (hold_fields actors) else None))
holds_hold true actors limits =
    pay_row_holds BadHold 3 (codes "hold") (λ actor. actor.hold) actors
    (All-weaker IsActor (λ actor. actor.hold ≤ 1_000_000_000) (λ actor is. is.hold) actors limits)
holds_hold false actors limits = hold-nil
