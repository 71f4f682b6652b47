-- The parts of the tasks, those that are asked for and the others.
use Rattle.std.proofs.Common.{◌≡◌, ℕ, suc, ◌+◌, Bool, true, false, List, [], ◌∷◌, ◌++◌, length, sym, ap, ◌∙◌, append-nil, append_assoc, arith}
use mathlib.Core.Bool.{beq}
use Rattle.strip_mask.proofs.Lists.{count-append}
use Rattle.strip_least.specs.Rule.{once_below, times}
use Rattle.strip_crew.specs.Race.{part_if, parts_where}
use Rattle.strip_crew.proofs.Once.{one_below}

-- one task more
pub parts_snoc : (asked : Bool) (part : ℕ) (wanted : List Bool) (last : Bool)
    → parts_where asked part (wanted ++ last ∷ []) ≡ parts_where asked part wanted ++ part_if (beq last asked) (part + length wanted)
parts_snoc asked part [] last =
    ap (λ (xs : List ℕ). xs) (append-nil (part_if (beq last asked) part)) ∙ ap (part_if (beq last asked)) (let same : part ≡ part + 0 = omega arith in same)
parts_snoc asked part (first ∷ wanted) last =
    ap (λ (xs : List ℕ). part_if (beq first asked) part ++ xs) (parts_snoc asked (suc part) wanted last)
    ∙ sym (append_assoc (part_if (beq first asked) part) (parts_where asked (suc part) wanted) (part_if (beq last asked) (suc part + length wanted)))
    ∙ ap (λ (n : ℕ). (part_if (beq first asked) part ++ parts_where asked (suc part) wanted) ++ part_if (beq last asked) n)
    (let same : suc part + length wanted ≡ part + suc (length wanted) = omega arith in same)

-- those that are asked for and those that aren't are all from the first part on
pub all_parts : (number part : ℕ) (wanted : List Bool)
    → times number (parts_where true part wanted) + times number (parts_where false part wanted) + once_below number part ≡ once_below number (part + length wanted)
all_parts number part [] = (let same : once_below number part ≡ once_below number (part + 0) = ap (once_below number) (let end : part ≡ part + 0 = omega arith in end) in omega (arith, same))
all_parts number part (true ∷ more) =
    let rest = all_parts number (suc part) more in
    let here = count-append number (part ∷ []) (parts_where true (suc part) more) in
    let ends : once_below number (suc part + length more) ≡ once_below number (part + suc (length more)) = ap (once_below number) (let same : suc part + length more ≡ part + suc (length more) = omega arith in same) in
    omega (arith, rest, one_below number part, here, ends)
all_parts number part (false ∷ more) =
    let rest = all_parts number (suc part) more in
    let here = count-append number (part ∷ []) (parts_where false (suc part) more) in
    let ends : once_below number (suc part + length more) ≡ once_below number (part + suc (length more)) = ap (once_below number) (let same : suc part + length more ≡ part + suc (length more) = omega arith in same) in
    omega (arith, rest, one_below number part, here, ends)
