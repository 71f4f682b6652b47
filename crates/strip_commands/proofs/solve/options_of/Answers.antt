use Rattle.std.proofs.Common.{◌≡◌, ℕ, ◌≤◌, Option, Some, subst, arith}
use Rattle.std.specs.Prelude.{IfSome}
use Rattle.strip_commands.proofs.solve.options_of.Goals as goal

-- what holds of a number that is there
of_some : (P : ℕ → Type 0) (number : Option ℕ) (n : ℕ) → IfSome number P → number ≡ Some n → P n
of_some P number n holds is = subst (λ (x : Option ℕ). IfSome x P) is holds

pub narrow-requires : goal.narrow-requires
narrow-requires c n is = omega (arith, of_some (λ m. m ≤ 100000000) c.args.tries n c.requires.tries is)

pub narrow-requires-2 : goal.narrow-requires-2
narrow-requires-2 c n is = (let most = of_some (λ m. (1 ≤ m) × (m ≤ 1000)) c.args.steps n c.requires.steps is in omega (arith, most.1))
