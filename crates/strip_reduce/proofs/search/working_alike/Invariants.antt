use Rattle.std.proofs.Common.{◌≡◌, ℕ, ◌<◌, take}
use Rattle.std.specs.Bool.{beq}
use Rattle.std.specs.List.{list_all}
use Rattle.strip_mask.specs.Set.{has}
use Rattle.strip_reduce.proofs.search.working_alike.Given as goal

abbrev pub invariant-loop-cast : goal.invariant-loop-cast
invariant-loop-cast l =
    (other : ℕ) → other < 64 → has l.alike.0 other ≡ list_all (λ cast. beq (has cast l.actor) (has cast other)) (take l.cast-index l.casts)
