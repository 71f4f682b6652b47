-- Lists in two parts.
use Rattle.std.proofs.Common.{◌≡◌, ℕ, ◌+◌, true, false, List, [], ◌∷◌, ◌++◌, Contains, inl, inr, sym, ◌∙◌, subst, arith}
use Rattle.std.proofs.lemmas.Bool.Decides.{eqb_tells}
use Rattle.strip_mask.specs.Set.{has, without}
use Rattle.strip_mask.proofs.ByMembers.{has-without_same, has-without_other, still_out}
use Rattle.strip_model.specs.Film.{FilmData}
use Rattle.strip_mask.proofs.Lists.{contains_here, contains_later, contains_cases, contains_none}
use Rattle.strip_film.specs.Finish.{AreFirsts, rest_after, steps_cost}
use Rattle.strip_film.proofs.Lists.{AllOnce, rest_after-parts}

pub AreFirsts-parts : (firsts : ℕ → ℕ) (set : ℕ) (xs ys : List ℕ) → AreFirsts firsts set (xs ++ ys)
    → AreFirsts firsts set xs × AreFirsts firsts (rest_after set xs) ys
AreFirsts-parts firsts set [] ys are = (tt, are)
AreFirsts-parts firsts set (x ∷ xs) ys are =
    let rest = AreFirsts-parts firsts (without set x) xs ys are.1 in
    ((are.0, rest.0), rest.1)

pub AreFirsts-joined : (firsts : ℕ → ℕ) (set : ℕ) (xs ys : List ℕ) → AreFirsts firsts set xs → AreFirsts firsts (rest_after set xs) ys
    → AreFirsts firsts set (xs ++ ys)
AreFirsts-joined firsts set [] ys front back = back
AreFirsts-joined firsts set (x ∷ xs) ys front back = (front.0, AreFirsts-joined firsts (without set x) xs ys front.1 back)

pub steps_cost-parts : (film : FilmData) (set : ℕ) (xs ys : List ℕ)
    → steps_cost film set (xs ++ ys) ≡ steps_cost film set xs + steps_cost film (rest_after set xs) ys
steps_cost-parts film set [] ys = omega arith
steps_cost-parts film set (x ∷ xs) ys =
    let rest : steps_cost film (without set x) (xs ++ ys) ≡ steps_cost film (without set x) xs + steps_cost film (rest_after (without set x) xs) ys
    = steps_cost-parts film (without set x) xs ys in
    omega (arith, rest)

-- the second part has each scene once of what the first part leaves
pub AllOnce-behind : (set : ℕ) (xs ys : List ℕ) → AllOnce set (xs ++ ys) → AllOnce (rest_after set xs) ys
AllOnce-behind set xs ys each = ((AreFirsts-parts (λ (q : ℕ). q) set xs ys each.0).1, sym (rest_after-parts set xs ys) ∙ each.1)

-- ---- what the first part leaves

out_after : (set : ℕ) (xs : List ℕ) (i : ℕ) → has set i ≡ false → has (rest_after set xs) i ≡ false
out_after set [] i out = out
out_after set (x ∷ xs) i out = out_after (without set x) xs i (still_out set x i out)

-- a scene of the list is not among what is left after it
pub shot_out : (set : ℕ) (xs : List ℕ) (i : ℕ) → Contains xs i → has (rest_after set xs) i ≡ false
shot_out set [] i there = absurd (contains_none i there)
shot_out set (x ∷ xs) i there = elim (contains_cases x xs i there) [
  | inl same ↦ out_after (without set x) xs i (subst (λ (j : ℕ). has (without set x) j ≡ false) same (has-without_same set x))
  | inr later ↦ shot_out (without set x) xs i later
]

-- and what is not left after the list stands in it
pub out_shot : (set : ℕ) (xs : List ℕ) (i : ℕ) → has set i ≡ true → has (rest_after set xs) i ≡ false → Contains xs i
out_shot set [] i there out = absurd (cc)
out_shot set (x ∷ xs) i there out = elim (eqb_tells x i) [
  | inl same ↦ subst (Contains (x ∷ xs)) same.1 (contains_here x xs)
  | inr other ↦ contains_later x xs i (out_shot (without set x) xs i (has-without_other set x i other.1 ∙ there) out)
]
