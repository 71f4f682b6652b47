use Rattle.std.proofs.Common.{◌≡◌, ℕ, ◌==◌, Some, length, take, eqb, sym, ap, ◌∙◌, arith, w64}
use lib.Count.{count_trailing_zeros}
use Rattle.std.specs.List.{position_or_len}
use Rattle.std.proofs.lemmas.Simd.{bitmask_splat, leading_from_mask_l, trailing_mask_l}
use Rattle.std.proofs.lemmas.List.{length-take-le, take_all}
use Rattle.strip_table.proofs.Places.{first_past, first_within}
use Rattle.strip_table.proofs.slot.place_of.Goals as goal

pub returns-then-hits-eq0 : goal.returns-then-hits-eq0
returns-then-hits-eq0 c =
    let p = λ (other : ℕ). other == c.args.set in
    let long : length (take 4 c.args.sets.now) ≡ 4 = length-take-le 4 c.args.sets.now (omega arith) in
    let hits = bitmask_splat w64 eqb (take 4 c.args.sets.now) 4 c.args.set long (omega arith) in
    let all : position_or_len p (take 4 c.args.sets.now) ≡ 4 = leading_from_mask_l p (take 4 c.args.sets.now) (sym hits ∙ c.if-hits-eq0.true) ∙ long in
    let whole : position_or_len p c.args.sets.now ≡ 4 = ap (position_or_len p) (sym (take_all 4 c.args.sets.now (omega arith))) ∙ all in
    first_past p c.args.count c.args.sets.now (omega arith) (omega arith)

pub returns-then-place-count : goal.returns-then-place-count
returns-then-place-count c =
    let p = λ (other : ℕ). other == c.args.set in
    let long : length (take 4 c.args.sets.now) ≡ 4 = length-take-le 4 c.args.sets.now (omega arith) in
    let hits = bitmask_splat w64 eqb (take 4 c.args.sets.now) 4 c.args.set long (omega arith) in
    let place = ap (count_trailing_zeros 64) hits ∙ trailing_mask_l p 64 (take 4 c.args.sets.now) (omega arith) (omega (arith, hits))
    ∙ ap (position_or_len p) (take_all 4 c.args.sets.now (omega arith)) in
    ap Some place ∙ first_within p c.args.count c.args.sets.now (omega arith) (omega (arith, place))

pub returns-else-place-count : goal.returns-else-place-count
returns-else-place-count c =
    let p = λ (other : ℕ). other == c.args.set in
    let long : length (take 4 c.args.sets.now) ≡ 4 = length-take-le 4 c.args.sets.now (omega arith) in
    let hits = bitmask_splat w64 eqb (take 4 c.args.sets.now) 4 c.args.set long (omega arith) in
    let place = ap (count_trailing_zeros 64) hits ∙ trailing_mask_l p 64 (take 4 c.args.sets.now) (omega arith) (omega (arith, hits))
    ∙ ap (position_or_len p) (take_all 4 c.args.sets.now (omega arith)) in
    first_past p c.args.count c.args.sets.now (omega arith) (omega (arith, place))
