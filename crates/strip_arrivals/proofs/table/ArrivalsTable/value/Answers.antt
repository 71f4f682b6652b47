use Rattle.std.proofs.Common.{◌≡◌, ◌+◌, ◌-◌, ◌*◌, ◌^◌, ◌≤◌, arith, subst}
use Rattle.std.proofs.Math.Nat.{mul-le-mul}
use Rattle.std.proofs.Math.Pow.{pow_mono}
use Rattle.strip_mask.specs.Set.{size}
use Rattle.strip_mask.specs.declared.mask.Mask.{Mask}
use Rattle.strip_arrivals.proofs.table.ArrivalsTable.value.Goals as goal

pub wide_value-requires-clause-crew : goal.wide_value-requires-clause-crew
wide_value-requires-clause-crew c = λ count fits. c.crew-crew.ensures.crew count (subst (λ (s : Mask). size s.0 ≤ count) c.crew-crew.ensures.group fits)

-- there is room for ten actors and two newcomers
pub value_in-requires-in_default-clause-room : goal.value_in-requires-in_default-clause-room
value_in-requires-in_default-clause-room c =
    let tables : 2 + 6 * size c.args.newcomers.0 ≤ 14 = omega (arith, c.requires.few_newcomers) in
    let blocks : 2 ^ (c.size.result - 6) ≤ 2 ^ 4 = pow_mono {j = 4} (omega (arith, c.size.ensures, c.requires.few)) in
    let all : (2 + 6 * size c.args.newcomers.0) * 2 ^ (c.size.result - 6) ≤ 14 * 2 ^ 4 = mul-le-mul tables blocks in
    omega (arith, all)
