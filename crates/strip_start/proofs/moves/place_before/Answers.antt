use Rattle.std.proofs.Common.{◌≡◌, ◌⊎◌, ℕ, ◌+◌, ◌<◌, List, length, slice_index, inl, inr, sym, ap, ◌∙◌, arith}
use Rattle.strip_start.specs.Moves.{moved, taken_out}
use Rattle.strip_start.proofs.Places.{length-moved, moved_others, moved_stands, scene_before, scene_behind}
use Rattle.strip_start.proofs.moves.place_before.Goals.{then-place-found-2, else-place-found-2}
use Rattle.strip_start.proofs.moves.place_before.Goals as goal

-- a place among the others that is one lower past the moved scene
abbrev IsAmong : ℕ → ℕ → ℕ → Type 0
IsAmong to rest place = ((rest ≡ place) × (place < to)) ⊎ ((rest + 1 ≡ place) × (to < place))

-- at it stands what stands at the place of the moved order
others_at : (order : List ℕ) (from to rest place : ℕ) → from < length order → to < length order → IsAmong to rest place
    → slice_index (taken_out from order) rest ≡ slice_index (moved order from to) place
others_at order from to rest place taken put (inl at) =
    let long : to < length (moved order from to) = omega (arith, put, length-moved order from taken to) in
    sym (ap (λ (xs : List ℕ). slice_index xs rest) (moved_others order from taken to put))
    ∙ scene_before (moved order from to) to long rest (omega (arith, at.0, at.1)) ∙ ap (slice_index (moved order from to)) at.0
others_at order from to rest place taken put (inr at) =
    let long : to < length (moved order from to) = omega (arith, put, length-moved order from taken to) in
    sym (ap (λ (xs : List ℕ). slice_index xs rest) (moved_others order from taken to put))
    ∙ scene_behind (moved order from to) to long rest (omega (arith, at.0, at.1)) ∙ ap (slice_index (moved order from to)) at.0

among_within : (to rest place n : ℕ) → to < n → place < n → IsAmong to rest place → rest + 1 < n
among_within to rest place n put here (inl at) = omega (arith, at.0, at.1)
among_within to rest place n put here (inr at) = omega (arith, at.0)

pub returns-then-place-found : goal.returns-then-place-found
returns-then-place-found c = λ order taken put here.
    (taken, sym (moved_stands order c.args.found.from taken c.args.found.to put) ∙ ap (slice_index (moved order c.args.found.from c.args.found.to)) (sym c.if-place-found.true))

pub returns-then-rest-found : goal.returns-then-rest-found
returns-then-rest-found c = λ order taken put here.
    let rest : ℕ = c.if-place-found-2.rest in
    let among : IsAmong c.args.found.to rest c.args.place = elim c.if-place-found-2.branch [
      | then-place-found-2 w ↦ inr (omega (arith, w.rest-is, w.if-place-found-2.true), w.if-place-found-2.true)
      | else-place-found-2 w ↦ inl (w.rest-is, omega (arith, w.if-place-found-2.false, c.if-place-found.false))
    ] in (
      omega (arith, c.if-rest-found.true, taken),
      sym (scene_before order c.args.found.from taken rest c.if-rest-found.true) ∙ others_at order c.args.found.from c.args.found.to rest c.args.place taken put among,
    )

pub returns-else-rest-found : goal.returns-else-rest-found
returns-else-rest-found c = λ order taken put here.
    let rest : ℕ = c.if-place-found-2.rest in
    let among : IsAmong c.args.found.to rest c.args.place = elim c.if-place-found-2.branch [
      | then-place-found-2 w ↦ inr (omega (arith, w.rest-is, w.if-place-found-2.true), w.if-place-found-2.true)
      | else-place-found-2 w ↦ inl (w.rest-is, omega (arith, w.if-place-found-2.false, c.if-place-found.false))
    ] in (
      among_within c.args.found.to rest c.args.place (length order) put here among,
      sym (scene_behind order c.args.found.from taken rest c.if-rest-found.false) ∙ others_at order c.args.found.from c.args.found.to rest c.args.place taken put among,
    )
