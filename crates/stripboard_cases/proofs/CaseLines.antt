-- The lines that begin a case, part by part.
use Rattle.std.proofs.Common.{◌≡◌, ℕ, ◌+◌, ◌-◌, ◌*◌, ◌^◌, ◌<◌, ◌≤◌, min, [], ◌∷◌, ◌++◌, Bool, true, false, cond, List, length, take, drop, get_or, drop-cons, length-drop, arith, sym, ap, ◌∙◌}
use Rattle.std.proofs.Math.Nat.{mul-pos}
use Rattle.std.proofs.lemmas.List.{take-append-drop, take_all}
use Rattle.std.proofs.lemmas.List.Sums.{sum_by-append}
use Rattle.stripboard_cases.specs.declared.lines.Line.{Line}
use Rattle.stripboard_cases.specs.CaseRows.{case_lines, is_case}

one_at_most : (b : Bool) → 0 + cond b 1 0 ≤ 1
one_at_most true = omega arith
one_at_most false = omega arith

parted : (xs ys : List Line) → case_lines (xs ++ ys) ≡ case_lines xs + case_lines ys
parted xs ys = sum_by-append (λ (line : Line). cond (is_case line.head) 1 0) xs ys

-- a case's first line, what stands before the next one, and that one and all behind it
pub case_lines_from : (rest later : List Line) (head : Line) (n m : ℕ) → 0 < length rest → length rest - 1 ≤ m → case_lines (take n (take m (drop 1 rest))) ≡ 0
    → later ≡ drop n (take m (drop 1 rest)) → case_lines rest ≤ 1 + case_lines later
case_lines_from rest later head n m some most none is =
    let behind = drop 1 rest in
    let all : take m behind ≡ behind = take_all m behind (omega (arith, length-drop 1 rest)) in
    let first : case_lines (get_or rest 0 head ∷ []) ≤ 1 = one_at_most (is_case (get_or rest 0 head).head) in
    let whole : case_lines rest ≡ case_lines (get_or rest 0 head ∷ []) + case_lines behind = ap case_lines (drop-cons rest 0 head some) ∙ parted (get_or rest 0 head ∷ []) behind in
    let split : case_lines behind ≡ case_lines (take n behind) + case_lines (drop n behind) = ap case_lines (sym (take-append-drop n behind)) ∙ parted (take n behind) (drop n behind) in
    let empty : case_lines (take n behind) ≡ 0 = ap (λ (lines : List Line). case_lines (take n lines)) (sym all) ∙ none in
    let last : case_lines later ≡ case_lines (drop n behind) = ap case_lines (is ∙ ap (drop n) all) in
    omega (arith, first, whole, split, empty, last)

pub product_some : (count more result : ℕ) → 0 < count → 0 < more → result ≡ min (count * more) (2 ^ 64 - 1) → 0 < result
product_some count more result some each is = omega (arith, is, mul-pos some each)
