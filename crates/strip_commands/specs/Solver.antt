-- Who solves an instance.
use Rattle.std.specs.Prelude.{ℕ, ◌≤◌, IfSome, Option, Result}
use Rattle.std.specs.Borrow.{Bor}
use Rattle.strip_model.specs.Data.{InstanceData}
use Rattle.strip_reduce.specs.declared.fault.ReduceFault.{ReduceFault}
use Rattle.strip_proof.specs.declared.plan.Plan.{Plan}
use Rattle.strip_solve.specs.declared.options.SearchOptions.{SearchOptions}
use Rattle.strip_solve.specs.Answer.{IsAnswerFor, MayBe}

-- a closure solves: it may be called for any instance, with all that a search may go by and with 1 to 64 workers or
-- with no number of them, and what it gives is the answer for the instance
pub record Solves (pre : Bor InstanceData → SearchOptions → Option ℕ → Type 0) (post : Bor InstanceData → SearchOptions → Option ℕ → Result Plan ReduceFault → Type 0) : Type 0 where
  pub callable : (inst : Bor InstanceData) (options : SearchOptions) (workers : Option ℕ) → MayBe options
      → IfSome workers (λ number. (1 ≤ number) × (number ≤ 64))
      → pre inst options workers
  pub answers : (inst : Bor InstanceData) (options : SearchOptions) (workers : Option ℕ) (answer : Result Plan ReduceFault)
      → post inst options workers answer → IsAnswerFor options inst.now answer
