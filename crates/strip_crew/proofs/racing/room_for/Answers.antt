use Rattle.std.proofs.Common.{◌≡◌, ◌≤◌, ◌+◌, ◌*◌, ◌⊎◌, ℕ, zero, suc, min, inl, inr, refl, sym, ap, ◌∙◌, subst, mul-le-mul_right, arith}
use Rattle.std.proofs.lemmas.Bool.{cases_lt}
use Rattle.std.proofs.Math.Nat.{mul_comm}
use Rattle.strip_lines.specs.Paths.{factorial}
use Rattle.strip_crew.proofs.racing.room_for.Goals as goal

next : (n : ℕ) → factorial (n + 1) ≡ (n + 1) * factorial n
next n = let more : suc n ≡ n + 1 = omega arith in subst (λ (m : ℕ). factorial m ≡ m * factorial n) more refl

some_order : (n : ℕ) → 1 ≤ factorial n
some_order zero = omega arith
some_order (suc n) = let more : 1 * factorial n ≤ suc n * factorial n = mul-le-mul_right (factorial n) (omega arith) in omega (arith, more, some_order n)

pub loop-scene-preserved : goal.loop-scene-preserved
loop-scene-preserved c =
    let n : ℕ = c.loop-scene.scene in
    record { orders = ap (λ (o : ℕ). o * (n + 1)) c.loop-scene.invariant.orders ∙ mul_comm (factorial n) (n + 1) ∙ sym (next n) }

pub returns-clause-some : goal.returns-clause-some
returns-clause-some c =
    omega (arith, c.min.ensures, c.from-2.ensures, c.saturating_mul.ensures, c.loop-scene.invariant.orders, some_order c.loop-scene.scene, c.requires.some)

-- the lesser of a small number and of what stands for another, cut off above it, is one of the two
either : (nodes other : ℕ) → nodes ≤ 16777216 → (min nodes (min other 18446744073709551615) ≡ nodes) ⊎ (min nodes (min other 18446744073709551615) ≡ other)
either nodes other few = elim (cases_lt nodes other) [
  | inl less ↦ inl (omega (arith, less, few))
  | inr more ↦ inr (omega (arith, more, few))
]

pub returns-clause-enough : goal.returns-clause-enough
returns-clause-enough c =
    let all : c.loop-scene.scene ≡ c.args.scenes = omega (arith, c.loop-scene-test.false, c.loop-scene.auto.scene-end) in
    elim (either c.args.nodes (2 * c.loop-scene.orders) c.requires.few) [
      | inl is ↦ inl (omega (arith, is, c.min.ensures, c.from-2.ensures, c.saturating_mul.ensures))
      | inr is ↦ inr (omega (arith, is, c.min.ensures, c.from-2.ensures, c.saturating_mul.ensures, c.loop-scene.invariant.orders, ap factorial all))
    ]
