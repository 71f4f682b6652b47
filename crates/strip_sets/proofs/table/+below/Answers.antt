use Rattle.std.proofs.Common.{◌≡◌, ◌≢◌, ◌+◌, ◌-◌, ◌^◌, ◌/◌, ◌<◌, ◌≤◌, ◌∙◌, ◌++◌, ℕ, arith, length, pow_pos, refl, rules, slice_index_or, slice_set, subst, suc, sym}
use Rattle.strip_mask.specs.Set.{full}
use Rattle.strip_sets.specs.Numbers.{number, sum_within}
use Rattle.strip_sets.proofs.Blocks.{doubled, first_block, half_length, sets_of, number_of_one, set_same, split_blocks}
use Rattle.strip_sets.proofs.Saving.{IsSplit}
use Rattle.strip_sets.proofs.Halving.{below_both, high_fits_below, low_fits, plus_fits}
use Rattle.strip_sets.proofs.Parts.{within_agree}
use Rattle.strip_sets.proofs.table.+below.Goals as goal

pub below-requires : goal.below-requires
below-requires g t c =
    let p : ℕ = g.B.BySet.places in
    let none : c.args.higher + p ≡ p = (let zero_is : c.args.higher ≡ 0 = c.if-higher-eq0.true in omega (arith, zero_is)) in
    let some : 0 < length c.args.table.now = omega (arith, c.requires.sized, pow_pos c.args.higher) in
    let same : (set : ℕ) → set < 2 ^ p → g.B.BySet.value (slice_index_or c.args.table.now 0 c.index-table-0.result) set ≡ number g.B.BySet.value p c.args.table.now set
    = λ set lt. sym (number_of_one g.B.BySet.value p c.args.table.now c.index-table-0.result set some lt) in
    let total = within_agree p (g.B.BySet.value (slice_index_or c.args.table.now 0 c.index-table-0.result)) (number g.B.BySet.value p c.args.table.now) (full p) same in
    let fits : sum_within p (number g.B.BySet.value p c.args.table.now) (full p) ≤ g.B.BySet.most = subst (λ (k : ℕ). sum_within k (number g.B.BySet.value p c.args.table.now) (full k) ≤ g.B.BySet.most) none c.requires.fits in
    omega (arith, total, fits)

pub returns-then-higher-eq0-clause-each : goal.returns-then-higher-eq0-clause-each
returns-then-higher-eq0-clause-each g t c =
    let p : ℕ = g.B.BySet.places in
    let none : c.args.higher + p ≡ p = (let zero_is : c.args.higher ≡ 0 = c.if-higher-eq0.true in omega (arith, zero_is)) in
    let some : 0 < length c.args.table.now = omega (arith, c.requires.sized, pow_pos c.args.higher) in
    let same : (set : ℕ) → set < 2 ^ p → g.B.BySet.value (slice_index_or c.args.table.now 0 c.index-table-0.result) set ≡ number g.B.BySet.value p c.args.table.now set
    = λ set lt. sym (number_of_one g.B.BySet.value p c.args.table.now c.index-table-0.result set some lt) in
    subst (λ (k : ℕ). (set : ℕ) → set < 2 ^ k → number g.B.BySet.value p (slice_set c.args.table.now 0 c.below.new.self) set ≡ sum_within k (number g.B.BySet.value p c.args.table.now) set) (sym none)
    (λ set lt. first_block g.B.BySet.value p (slice_set c.args.table.now 0 c.below.new.self) set lt ∙ set_same g.B.BySet.value c.args.table.now 0 set c.below.new.self some
    ∙ c.below.ensures set lt ∙ within_agree p (g.B.BySet.value (slice_index_or c.args.table.now 0 c.index-table-0.result)) (number g.B.BySet.value p c.args.table.now) set same)

pub below-requires-2 : goal.below-requires-2
below-requires-2 g t c κs within =
    let p : ℕ = g.B.BySet.places in
    let n : ℕ = c.args.higher - 1 + g.B.BySet.places in
    let some : c.args.higher ≢ 0 = c.if-higher-eq0.false in
    let half : length c.args.table.now / 2 ≡ 2 ^ (c.args.higher - 1) = half_length (length c.args.table.now) c.args.higher c.requires.sized some in
    let front : length c.split_at_mut-low.result.0.now ≡ 2 ^ (c.args.higher - 1) = c.split_at_mut-low.ensures.front_len ∙ half in
    let back : length c.split_at_mut-low.result.1.now ≡ 2 ^ (c.args.higher - 1) = omega (arith, half, c.split_at_mut-low.ensures.back_len, c.requires.sized, doubled c.args.higher some) in
    let is : c.args.higher + p ≡ suc n = omega (arith, some) in
    let f : IsSplit n (number g.B.BySet.value p c.args.table.now) (number g.B.BySet.value p c.split_at_mut-low.result.0.now) (number g.B.BySet.value p c.split_at_mut-low.result.1.now)
    = split_blocks g.B.BySet.value p (c.args.higher - 1) c.args.table.now c.split_at_mut-low.result.0.now c.split_at_mut-low.result.1.now c.split_at_mut-low.ensures.value front in
    (omega (arith, c.decreases, some), (search rules, (front, low_fits n (c.args.higher + p) g.B.BySet.most is f c.requires.fits)))

pub below-requires-3 : goal.below-requires-3
below-requires-3 g t c κs within =
    let p : ℕ = g.B.BySet.places in
    let n : ℕ = c.args.higher - 1 + g.B.BySet.places in
    let some : c.args.higher ≢ 0 = c.if-higher-eq0.false in
    let half : length c.args.table.now / 2 ≡ 2 ^ (c.args.higher - 1) = half_length (length c.args.table.now) c.args.higher c.requires.sized some in
    let front : length c.split_at_mut-low.result.0.now ≡ 2 ^ (c.args.higher - 1) = c.split_at_mut-low.ensures.front_len ∙ half in
    let back : length c.split_at_mut-low.result.1.now ≡ 2 ^ (c.args.higher - 1) = omega (arith, half, c.split_at_mut-low.ensures.back_len, c.requires.sized, doubled c.args.higher some) in
    let is : c.args.higher + p ≡ suc n = omega (arith, some) in
    let f : IsSplit n (number g.B.BySet.value p c.args.table.now) (number g.B.BySet.value p c.split_at_mut-low.result.0.now) (number g.B.BySet.value p c.split_at_mut-low.result.1.now)
    = split_blocks g.B.BySet.value p (c.args.higher - 1) c.args.table.now c.split_at_mut-low.result.0.now c.split_at_mut-low.result.1.now c.split_at_mut-low.ensures.value front in
    (omega (arith, c.decreases, some), (search rules, (back, high_fits_below n (c.args.higher + p) g.B.BySet.most is f c.requires.fits)))

pub plus-requires-clause-same : goal.plus-requires-clause-same
plus-requires-clause-same g t c =
    let p : ℕ = g.B.BySet.places in
    let n : ℕ = c.args.higher - 1 + g.B.BySet.places in
    let some : c.args.higher ≢ 0 = c.if-higher-eq0.false in
    let half : length c.args.table.now / 2 ≡ 2 ^ (c.args.higher - 1) = half_length (length c.args.table.now) c.args.higher c.requires.sized some in
    let front : length c.split_at_mut-low.result.0.now ≡ 2 ^ (c.args.higher - 1) = c.split_at_mut-low.ensures.front_len ∙ half in
    let back : length c.split_at_mut-low.result.1.now ≡ 2 ^ (c.args.higher - 1) = omega (arith, half, c.split_at_mut-low.ensures.back_len, c.requires.sized, doubled c.args.higher some) in
    let is : c.args.higher + p ≡ suc n = omega (arith, some) in
    omega (arith, c.below-2.ensures.length, c.below-3.ensures.length, front, back)

pub plus-requires-clause-fits : goal.plus-requires-clause-fits
plus-requires-clause-fits g t c =
    let p : ℕ = g.B.BySet.places in
    let n : ℕ = c.args.higher - 1 + g.B.BySet.places in
    let some : c.args.higher ≢ 0 = c.if-higher-eq0.false in
    let half : length c.args.table.now / 2 ≡ 2 ^ (c.args.higher - 1) = half_length (length c.args.table.now) c.args.higher c.requires.sized some in
    let front : length c.split_at_mut-low.result.0.now ≡ 2 ^ (c.args.higher - 1) = c.split_at_mut-low.ensures.front_len ∙ half in
    let back : length c.split_at_mut-low.result.1.now ≡ 2 ^ (c.args.higher - 1) = omega (arith, half, c.split_at_mut-low.ensures.back_len, c.requires.sized, doubled c.args.higher some) in
    let is : c.args.higher + p ≡ suc n = omega (arith, some) in
    let f : IsSplit n (number g.B.BySet.value p c.args.table.now) (number g.B.BySet.value p c.split_at_mut-low.result.0.now) (number g.B.BySet.value p c.split_at_mut-low.result.1.now)
    = split_blocks g.B.BySet.value p (c.args.higher - 1) c.args.table.now c.split_at_mut-low.result.0.now c.split_at_mut-low.result.1.now c.split_at_mut-low.ensures.value front in
    λ set lt. plus_fits n (c.args.higher + p) g.B.BySet.most is f c.requires.fits (number g.B.BySet.value p c.below-2.new.table) (number g.B.BySet.value p c.below-3.new.table) c.below-2.ensures.each c.below-3.ensures.each set (omega (arith, lt, sets_of (length c.below-3.new.table) (c.args.higher - 1) p (c.below-3.ensures.length ∙ back)))

pub returns-clause-each : goal.returns-clause-each
returns-clause-each g t c =
    let p : ℕ = g.B.BySet.places in
    let n : ℕ = c.args.higher - 1 + g.B.BySet.places in
    let some : c.args.higher ≢ 0 = c.if-higher-eq0.false in
    let half : length c.args.table.now / 2 ≡ 2 ^ (c.args.higher - 1) = half_length (length c.args.table.now) c.args.higher c.requires.sized some in
    let front : length c.split_at_mut-low.result.0.now ≡ 2 ^ (c.args.higher - 1) = c.split_at_mut-low.ensures.front_len ∙ half in
    let back : length c.split_at_mut-low.result.1.now ≡ 2 ^ (c.args.higher - 1) = omega (arith, half, c.split_at_mut-low.ensures.back_len, c.requires.sized, doubled c.args.higher some) in
    let is : c.args.higher + p ≡ suc n = omega (arith, some) in
    let f : IsSplit n (number g.B.BySet.value p c.args.table.now) (number g.B.BySet.value p c.split_at_mut-low.result.0.now) (number g.B.BySet.value p c.split_at_mut-low.result.1.now)
    = split_blocks g.B.BySet.value p (c.args.higher - 1) c.args.table.now c.split_at_mut-low.result.0.now c.split_at_mut-low.result.1.now c.split_at_mut-low.ensures.value front in
    let m = split_blocks g.B.BySet.value p (c.args.higher - 1) (c.below-2.new.table ++ c.plus.new.table) c.below-2.new.table c.plus.new.table refl (c.below-2.ensures.length ∙ front) in
    below_both n (c.args.higher + p) g.B.BySet.most is f c.requires.fits (number g.B.BySet.value p c.below-2.new.table) (number g.B.BySet.value p c.below-3.new.table) c.below-2.ensures.each c.below-3.ensures.each (number g.B.BySet.value p c.plus.new.table) m
    (λ set lt. c.plus.ensures.each set (omega (arith, lt, sets_of (length c.below-3.new.table) (c.args.higher - 1) p (c.below-3.ensures.length ∙ back))))
