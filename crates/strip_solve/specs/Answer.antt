-- What is asked of a search, and what is answered.
use Rattle.std.specs.Prelude.{◌≡◌, ℕ, ◌<◌, ◌≤◌, Result, Err, IfOk, OnOk}
use Rattle.strip_model.specs.Data.{InstanceData}
use Rattle.strip_model.specs.FilmOf.{film_of}
use Rattle.strip_reduce.specs.declared.fault.ReduceFault.{ReduceFault}
use Rattle.strip_reduce.specs.declared.fault.ReduceFault.TheVariants.{TooManyClasses}
use Rattle.strip_reduce.specs.Reduction.{class_count}
use Rattle.strip_proof.specs.declared.plan.Plan.{Plan}
use Rattle.strip_proof.specs.Plan.{plan_data}
use Rattle.strip_proof.specs.Text.{IsReadablePlan}
use Rattle.strip_solve.specs.declared.options.SearchOptions.{SearchOptions}
use Rattle.strip_solve.specs.Solved.{IsSolvedBy}

-- a search may go by so many lines and entries
pub record MayBe (options : SearchOptions) : Type 0 where
  pub some_lines : 1 ≤ options.nodes
  pub few_lines : options.nodes ≤ 16777216
  pub some_entries : 64 ≤ options.entries
  pub few_entries : options.entries ≤ 4194304

-- the answer for an instance: a plan of it, which a text can say, where no more than 64 classes are left, and else
-- how many there are
pub record IsAnswerFor (options : SearchOptions) (inst : InstanceData) (answer : Result Plan ReduceFault) : Type 0 where
  pub solved : IfOk answer (λ plan. IsSolvedBy options.auto options.kind (film_of inst) options.nodes (plan_data plan))
  pub readable : IfOk answer (λ plan. IsReadablePlan inst (plan_data plan))
  pub few : OnOk answer (class_count (film_of inst) ≤ 64)
  pub too_many : (count : ℕ) → answer ≡ Err (TooManyClasses count) → (64 < count) × (count ≡ class_count (film_of inst))
