use Rattle.std.proofs.Common.{◌≡◌, ◌+◌, ◌<◌, ◌≤◌, ◌∙◌, ◌∷◌, [], ℕ, List, ap, arith, refl, slice_index, sym}
use Rattle.strip_mask.specs.Set.{meet}
use Rattle.strip_group.specs.Saved.{left_by}
use Rattle.strip_sets.proofs.FourSets.{by_four}
use Rattle.strip_group.proofs.Four.{left_both, left_first, left_none, left_second}
use Rattle.strip_sets.proofs.Vectors.{sums_fit, sum_at}
use Rattle.strip_group.proofs.Places.{meet_most}
use Rattle.strip_group.proofs.by_set.ArrayU324BySet.with_days.Goals as goal

pub offset_bounds-table-first : goal.offset_bounds-table-first
offset_bounds-table-first c = omega (arith, c.meet-first.ensures, meet_most c.args.scenes.0 (slice_index c.args.stays.now 0), c.requires.scenes)

pub bounds-table-first : goal.bounds-table-first
bounds-table-first c = omega (arith, c.meet-first.ensures, meet_most c.args.scenes.0 (slice_index c.args.stays.now 0), c.requires.scenes)

pub offset_bounds-table-second : goal.offset_bounds-table-second
offset_bounds-table-second c = omega (arith, c.meet-second.ensures, meet_most c.args.scenes.0 (slice_index c.args.stays.now 1), c.requires.scenes)

pub bounds-table-second : goal.bounds-table-second
bounds-table-second c = omega (arith, c.meet-second.ensures, meet_most c.args.scenes.0 (slice_index c.args.stays.now 1), c.requires.scenes)

pub offset_bounds-table-both : goal.offset_bounds-table-both
offset_bounds-table-both c = omega (
  arith,
  c.meet-both.ensures,
  meet_most c.meet-second.result.0
      (slice_index c.args.stays.now 0),
  c.meet-second.ensures,
  meet_most c.args.scenes.0 (slice_index c.args.stays.now 1),
  c.requires.scenes,
)

pub bounds-table-both : goal.bounds-table-both
bounds-table-both c = omega (
  arith,
  c.meet-both.ensures,
  meet_most c.meet-second.result.0 (slice_index c.args.stays.now 0),
  c.meet-second.ensures,
  meet_most c.args.scenes.0
      (slice_index c.args.stays.now 1),
  c.requires.scenes,
)

pub overflow_add-result : goal.overflow_add-result
overflow_add-result c =
    let table : List ℕ = c.args.table.now in
    let own : List ℕ = c.args.self.now in
    let most : (i : ℕ) → i < 4 → slice_index own i + 65535 ≤ 4294967295 = c.requires.fits in
    let entry : (s : ℕ) → slice_index table s < 65536 = c.fits-table in
    sums_fit own (slice_index table c.args.scenes.0 ∷ slice_index table c.meet-first.result.0 ∷ slice_index table c.meet-second.result.0 ∷ slice_index table c.meet-both.result.0 ∷ []) c.told-self refl
    (by_four (λ i. slice_index own i + slice_index (slice_index table c.args.scenes.0 ∷ slice_index table c.meet-first.result.0 ∷ slice_index table c.meet-second.result.0
    ∷ slice_index table c.meet-both.result.0 ∷ []) i < 4294967296)
    (omega (arith, most 0 (omega arith), entry c.args.scenes.0)) (omega (arith, most 1 (omega arith), entry c.meet-first.result.0))
    (omega (arith, most 2 (omega arith), entry c.meet-second.result.0)) (omega (arith, most 3 (omega arith), entry c.meet-both.result.0)))

pub returns : goal.returns
returns c =
    let table : List ℕ = c.args.table.now in
    let own : List ℕ = c.args.self.now in
    let both : c.meet-both.result.0 ≡ meet (meet c.args.scenes.0 (slice_index c.args.stays.now 1)) (slice_index c.args.stays.now 0)
    = c.meet-both.ensures ∙ ap (λ (s : ℕ). meet s (slice_index c.args.stays.now 0)) c.meet-second.ensures in
    λ set lt. sum_at own (slice_index table c.args.scenes.0 ∷ slice_index table c.meet-first.result.0 ∷ slice_index table c.meet-second.result.0 ∷ slice_index table c.meet-both.result.0 ∷ []) c.told-self refl set lt
    ∙ by_four (λ set. slice_index own set + slice_index (slice_index table c.args.scenes.0 ∷ slice_index table c.meet-first.result.0 ∷ slice_index table c.meet-second.result.0
    ∷ slice_index table c.meet-both.result.0 ∷ []) set ≡ slice_index own set + slice_index table (left_by c.args.stays.now 2 set c.args.scenes.0))
    (ap (λ (s : ℕ). slice_index own 0 + slice_index table s) (sym (left_none c.args.stays.now c.args.scenes.0)))
    (ap (λ (s : ℕ). slice_index own 1 + slice_index table s) (c.meet-first.ensures ∙ sym (left_first c.args.stays.now c.args.scenes.0)))
    (ap (λ (s : ℕ). slice_index own 2 + slice_index table s) (c.meet-second.ensures ∙ sym (left_second c.args.stays.now c.args.scenes.0)))
    (ap (λ (s : ℕ). slice_index own 3 + slice_index table s) (both ∙ sym (left_both c.args.stays.now c.args.scenes.0))) set lt
