-- What remains after a scene is a lesser number; and what a step leaves of a need.
use Rattle.std.proofs.Common.{◌≡◌, ◌≢◌, ℕ, ◌+◌, ◌-◌, ◌<◌, ◌≤◌, Bool, true, false, not, ◌&&◌, eqb, refl, ap, sym, ◌∙◌, subst, arith}
use Rattle.std.proofs.lemmas.Nat.{and_le_l}
use Rattle.strip_mask.specs.Set.{has, meet, without}
use Rattle.strip_mask.proofs.ByMembers.{has-meet, has-without, has-without_same, same_has}

twice : (x y : Bool) → (x && (y && x)) ≡ (y && x)
twice true true = refl
twice true false = refl
twice false true = refl
twice false false = refl

part_le : (a b : ℕ) → meet a b ≤ a
unfolding meet
part_le a b = and_le_l a b

-- what remains after a scene of the set is a lesser number
pub without_less : (set scene : ℕ) → has set scene ≡ true → without set scene < set
without_less set scene member =
    let part : meet set (without set scene) ≡ without set scene = same_has (meet set (without set scene)) (without set scene)
    (λ j. has-meet set (without set scene) j
    ∙ ((λ i. has set j && has-without set scene j i) ∙ (twice (has set j) (not (eqb scene j)) ∙ sym (has-without set scene j)))) in
    let le : without set scene ≤ set = subst (λ (n : ℕ). n ≤ set) part (part_le set (without set scene)) in
    let apart : without set scene ≢ set = λ same.
    (let out : has set scene ≡ false = ap (λ (n : ℕ). has n scene) (sym same) ∙ has-without_same set scene in
    let both : true ≡ false = sym member ∙ out in cc) in
    omega (arith, le, apart)

-- where a step takes no more than what is needed less it
pub short_from : (step rest need most : ℕ) → need ≡ most - step → rest < need → step + rest < most
short_from step rest need most is less = omega (arith, is, less)

pub short_to : (step rest need most : ℕ) → need ≡ most - step → step + rest < most → rest < need
short_to step rest need most is less = omega (arith, is, less)
