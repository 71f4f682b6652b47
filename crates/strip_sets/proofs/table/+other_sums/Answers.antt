use Rattle.std.proofs.Common.{◌≡◌, ◌≢◌, ◌+◌, ◌-◌, ◌^◌, ◌/◌, ◌<◌, ◌∙◌, ◌++◌, ℕ, ap, arith, length, pow_pos, refl, rules, slice_index, slice_set, subst, suc, sym}
use Rattle.strip_mask.specs.Set.{full, sum_over}
use Rattle.strip_sets.specs.Numbers.{number}
use Rattle.strip_sets.proofs.Blocks.{doubled, first_block, half_length, sets_of, set_same, split_blocks}
use Rattle.strip_sets.proofs.Halving.{high_fits, more_fits, other_sums_both}
use Rattle.strip_sets.proofs.table.+other_sums.Goals as goal

pub returns-then-higher-eq0-clause-each : goal.returns-then-higher-eq0-clause-each
returns-then-higher-eq0-clause-each g t c =
    let p : ℕ = g.B.BySet.places in
    let none : c.args.higher + p ≡ p = (let zero_is : c.args.higher ≡ 0 = c.if-higher-eq0.true in omega (arith, zero_is)) in
    let some : 0 < length c.args.table.now = omega (arith, c.requires.sized, pow_pos c.args.higher) in
    subst (λ (k : ℕ). (set : ℕ) → set < 2 ^ k → number g.B.BySet.value p (slice_set c.args.table.now 0 c.other_sums.new.self) set + sum_over c.args.numbers.now set ≡ c.args.first + sum_over c.args.numbers.now (full k)) (sym none)
    (λ set lt. ap (λ (x : ℕ). x + sum_over c.args.numbers.now set) (first_block g.B.BySet.value p (slice_set c.args.table.now 0 c.other_sums.new.self) set lt ∙ set_same g.B.BySet.value c.args.table.now 0 set c.other_sums.new.self some)
    ∙ c.other_sums.ensures set lt)

pub other_sums-requires-2 : goal.other_sums-requires-2
other_sums-requires-2 g t c κs within =
    let p : ℕ = g.B.BySet.places in
    let n : ℕ = c.args.higher - 1 + g.B.BySet.places in
    let some : c.args.higher ≢ 0 = c.if-higher-eq0.false in
    let half : length c.args.table.now / 2 ≡ 2 ^ (c.args.higher - 1) = half_length (length c.args.table.now) c.args.higher c.requires.sized some in
    let front : length c.split_at_mut-low.result.0.now ≡ 2 ^ (c.args.higher - 1) = c.split_at_mut-low.ensures.front_len ∙ half in
    let back : length c.split_at_mut-low.result.1.now ≡ 2 ^ (c.args.higher - 1) = omega (arith, half, c.split_at_mut-low.ensures.back_len, c.requires.sized, doubled c.args.higher some) in
    let is : c.args.higher + p ≡ suc n = omega (arith, some) in
    (omega (arith, c.decreases, some), (search rules, (omega (arith, c.requires.few), (back, high_fits n (c.args.higher + p) is c.requires.few c.args.numbers.now c.args.first (slice_index c.args.numbers.now n) refl g.B.BySet.most c.requires.fits))))

pub more_than-requires-clause-same : goal.more_than-requires-clause-same
more_than-requires-clause-same g t c =
    let p : ℕ = g.B.BySet.places in
    let n : ℕ = c.args.higher - 1 + g.B.BySet.places in
    let some : c.args.higher ≢ 0 = c.if-higher-eq0.false in
    let half : length c.args.table.now / 2 ≡ 2 ^ (c.args.higher - 1) = half_length (length c.args.table.now) c.args.higher c.requires.sized some in
    let front : length c.split_at_mut-low.result.0.now ≡ 2 ^ (c.args.higher - 1) = c.split_at_mut-low.ensures.front_len ∙ half in
    let back : length c.split_at_mut-low.result.1.now ≡ 2 ^ (c.args.higher - 1) = omega (arith, half, c.split_at_mut-low.ensures.back_len, c.requires.sized, doubled c.args.higher some) in
    let is : c.args.higher + p ≡ suc n = omega (arith, some) in
    omega (arith, c.other_sums-2.ensures.length, front, back)

pub more_than-requires-clause-fits : goal.more_than-requires-clause-fits
more_than-requires-clause-fits g t c =
    let p : ℕ = g.B.BySet.places in
    let n : ℕ = c.args.higher - 1 + g.B.BySet.places in
    let some : c.args.higher ≢ 0 = c.if-higher-eq0.false in
    let half : length c.args.table.now / 2 ≡ 2 ^ (c.args.higher - 1) = half_length (length c.args.table.now) c.args.higher c.requires.sized some in
    let front : length c.split_at_mut-low.result.0.now ≡ 2 ^ (c.args.higher - 1) = c.split_at_mut-low.ensures.front_len ∙ half in
    let back : length c.split_at_mut-low.result.1.now ≡ 2 ^ (c.args.higher - 1) = omega (arith, half, c.split_at_mut-low.ensures.back_len, c.requires.sized, doubled c.args.higher some) in
    let is : c.args.higher + p ≡ suc n = omega (arith, some) in
    let place : slice_index c.args.numbers.now (c.places.result + c.args.higher - 1) ≡ slice_index c.args.numbers.now n = ap (slice_index c.args.numbers.now) (omega (arith, c.places.ensures, some)) in
    λ set lt. more_fits n (c.args.higher + p) is c.requires.few c.args.numbers.now c.args.first (slice_index c.args.numbers.now (c.places.result + c.args.higher - 1)) place g.B.BySet.most (number g.B.BySet.value p c.other_sums-2.new.table set) set c.requires.fits
    (c.other_sums-2.ensures.each set (omega (arith, lt, sets_of (length c.split_at_mut-low.result.0.now) (c.args.higher - 1) p front)))

pub returns-clause-each : goal.returns-clause-each
returns-clause-each g t c =
    let p : ℕ = g.B.BySet.places in
    let n : ℕ = c.args.higher - 1 + g.B.BySet.places in
    let some : c.args.higher ≢ 0 = c.if-higher-eq0.false in
    let half : length c.args.table.now / 2 ≡ 2 ^ (c.args.higher - 1) = half_length (length c.args.table.now) c.args.higher c.requires.sized some in
    let front : length c.split_at_mut-low.result.0.now ≡ 2 ^ (c.args.higher - 1) = c.split_at_mut-low.ensures.front_len ∙ half in
    let back : length c.split_at_mut-low.result.1.now ≡ 2 ^ (c.args.higher - 1) = omega (arith, half, c.split_at_mut-low.ensures.back_len, c.requires.sized, doubled c.args.higher some) in
    let is : c.args.higher + p ≡ suc n = omega (arith, some) in
    let place : slice_index c.args.numbers.now (c.places.result + c.args.higher - 1) ≡ slice_index c.args.numbers.now n = ap (slice_index c.args.numbers.now) (omega (arith, c.places.ensures, some)) in
    let m = split_blocks g.B.BySet.value p (c.args.higher - 1) (c.more_than.new.table ++ c.other_sums-2.new.table) c.more_than.new.table c.other_sums-2.new.table refl
    (c.more_than.ensures.length ∙ front) in
    other_sums_both n (c.args.higher + p) is c.requires.few c.args.numbers.now c.args.first (slice_index c.args.numbers.now (c.places.result + c.args.higher - 1)) place m (λ set lt. c.more_than.ensures.each set (omega (arith, lt, sets_of (length c.split_at_mut-low.result.0.now) (c.args.higher - 1) p front))) c.other_sums-2.ensures.each
