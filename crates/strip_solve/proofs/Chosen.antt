-- Plans by bounds that were chosen.
use Rattle.std.proofs.Common.{◌≤◌, ℕ, Bool, true, false, min, inl, inr, arith}
use Rattle.strip_model.specs.declared.kind.Kind.{Kind}
use Rattle.strip_model.specs.declared.kind.Kind.TheVariants.{Pairs, Arrivals}
use Rattle.strip_model.specs.Film.{FilmData}
use Rattle.strip_proof.specs.Plan.{PlanData}
use Rattle.strip_solve.specs.Solved.{IsSolved, IsSolvedBy}

-- a plan by bounds of some kind, and by as many lines at most or fewer
abbrev pub SolvedSomehow : FilmData → ℕ → PlanData → Type 0
SolvedSomehow film most plan = (kind : Kind) × (lines : ℕ) × (lines ≤ most) × IsSolved kind film lines plan

pub solved_somehow : (auto : Bool) (kind : Kind) (film : FilmData) (most : ℕ) (plan : PlanData) → IsSolvedBy auto kind film most plan → SolvedSomehow film most plan
solved_somehow true kind film most plan (inl first) = (Pairs, min most 50000, omega arith, first.0)
solved_somehow true kind film most plan (inr second) = (Arrivals, most, omega arith, second)
solved_somehow false kind film most plan solved = (kind, most, omega arith, solved)
