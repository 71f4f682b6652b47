use Rattle.std.proofs.Common.{◌≡◌, ◌+◌, ◌⊎◌, ℕ, All, IfOk, vec_len}
use Rattle.strip_front.specs.Shown.{front_data}
use Rattle.strip_worker.specs.Team.{GoesOn, HasWorked}
use Rattle.strip_crew.specs.Crew.{ArePassesOf, IsDone, NoPartLeft, Weigh, shown}
use Rattle.strip_crew.specs.Sources.{split_home}
use Rattle.strip_crew.proofs.working.work_beside.Given as goal

abbrev pub invariant-loop-one : goal.invariant-loop-one
invariant-loop-one g l = record {
  passes : ArePassesOf l.fn.tables.least l.fn.tables.book l.passes;
  goes_on : GoesOn (shown l.fn.passes) (shown l.passes);
  weight : (total : ℕ) → Weigh total l.fn.passes → (rest : ℕ) × (rest + vec_len l.all ≡ total) × Weigh rest l.passes;
  worked : HasWorked (shown l.passes) (front_data l.fn.front) l.walked.found.items l.walked.spent;
  all : All (λ one. IfOk one (IsDone g.B.Bounds.kind g.B.Bounds.film (front_data l.fn.front) l.fn.tables.least l.fn.tables.book g.S.Rooted.home)) l.all.items;
  home : split_home l.passes.source ≡ g.S.Rooted.home;
  left : (vec_len l.all ≡ l.fn.race.limits.workers) ⊎ NoPartLeft l.passes;
}

abbrev pub decreases-loop-one : goal.decreases-loop-one
decreases-loop-one g l = vec_len l.all
