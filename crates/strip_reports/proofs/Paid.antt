-- The pay of the report's sums is the pay of the order.
use Rattle.std.proofs.Common.{◌≡◌, ℕ, ◌+◌, ◌*◌, ◌<◌, false, List, [], ◌∷◌, ◌++◌, All, length, get_or, map, replicate, codes, slice_index, sum_by, sym, ap, ◌∙◌, arith}
use Rattle.std.specs.Fmt.{decimal}
use Rattle.std.specs.List.{range_with_len}
use Rattle.std.proofs.lemmas.List.{append_assoc, get_or-map}
use Rattle.strip_mask.specs.Set.{has}
use Rattle.strip_mask.proofs.Sums.{sum_below-ext}
use Rattle.strip_model.proofs.Walk.{paid_after-new}
use Rattle.strip_model.specs.Film.{FilmData}
use Rattle.strip_model.specs.Order.{IsOrder}
use Rattle.strip_model.specs.Pay.{day_pay, pay_of, span, works}
use Rattle.strip_model.specs.Data.{InstanceData, IsInstance, IsScene, SceneData}
use Rattle.strip_model.specs.FilmOf.{film_of}
use Rattle.strip_text.specs.Rows.{Row}
use Rattle.strip_reports.specs.Days.{crews_of}
use Rattle.strip_reports.specs.Sums.{pay_for, total_of}
use Rattle.strip_reports.specs.Text.{actor_fields, dood_rows, header_fields, total_fields}
use Rattle.strip_reports.proofs.Held.{held_days, paid_days, waited_days, worked_days}

actor_pay : (film : FilmData) (order : List ℕ) (actor : ℕ) → All (λ scene. 0 < slice_index film.days scene) order
    → pay_for film (crews_of film order) actor ≡ sum_by (day_pay film actor) (span film order actor)
actor_pay film order actor some =
    let work = worked_days (λ crew. has crew actor) (slice_index film.days) (slice_index film.casts) order in
    let hold = held_days (crews_of film order) actor ∙ waited_days (λ crew. has crew actor) (slice_index film.days) (slice_index film.casts) false order some in
    (λ i. slice_index film.rates actor * work i + slice_index film.holds actor * hold i)
    ∙ sym (paid_days (works film actor) (slice_index film.days) (slice_index film.rates actor) (slice_index film.holds actor) false order)
    ∙ paid_after-new (works film actor) (day_pay film actor) order

pub some_days : (inst : InstanceData) (order : List ℕ) → IsInstance inst → IsOrder (length inst.scenes) order
    → All (λ scene. 0 < slice_index (film_of inst).days scene) order
some_days inst order is is_order k d lt =
    let scene = get_or order k d in
    let known : scene < length inst.scenes = is_order.known k d lt in
    let default : SceneData = record { name = []; days = 0; cast = 0 } in
    let at : slice_index (film_of inst).days scene ≡ (get_or inst.scenes scene default).days
    = get_or-map (λ (scene : SceneData). scene.days) inst.scenes scene default 0 known in
    let fit : IsScene (length inst.actors) (get_or inst.scenes scene default) = is.scenes scene default known in
    omega (arith, at, fit.days.0)

pub total_pay : (inst : InstanceData) (order : List ℕ) → IsInstance inst → IsOrder (length inst.scenes) order
    → (total_of (film_of inst) (crews_of (film_of inst) order)).pay ≡ pay_of (film_of inst) order
total_pay inst order is is_order =
    let film : FilmData = film_of inst in
    sum_below-ext (length film.rates) (pay_for film (crews_of film order)) (λ actor. sum_by (day_pay film actor) (span film order actor))
    (λ actor _. actor_pay film order actor (some_days inst order is is_order))

pub said_pay : (inst : InstanceData) (order : List ℕ) → IsInstance inst → IsOrder (length inst.scenes) order
    → (rows : List Row) × (fields : Row) × (dood_rows inst order ≡ rows ++ (fields ++ decimal (pay_of (film_of inst) order) ∷ []) ∷ [])
said_pay inst order is is_order =
    let film : FilmData = film_of inst in
    let crews : List ℕ = crews_of film order in
    let before : List Row = header_fields (length crews) ∷ map (actor_fields inst crews) (range_with_len 0 (length inst.actors)) in
    let days : Row = replicate (length crews) [] in
    let sums = total_of film crews in
    let three : Row = decimal sums.work ∷ decimal sums.hold ∷ decimal (sums.work + sums.hold) ∷ [] in
    let last : total_fields inst crews ≡ (codes "total" ∷ [] ∷ (days ++ three)) ++ decimal (pay_of film order) ∷ []
    = ap (λ (row : Row). codes "total" ∷ [] ∷ row)
    ((λ i. days ++ (decimal sums.work ∷ decimal sums.hold ∷ decimal (sums.work + sums.hold) ∷ decimal (total_pay inst order is is_order i) ∷ []))
    ∙ sym (append_assoc days three (decimal (pay_of film order) ∷ []))) in
    (before, codes "total" ∷ [] ∷ (days ++ three), ap (λ (row : Row). before ++ row ∷ []) last)
