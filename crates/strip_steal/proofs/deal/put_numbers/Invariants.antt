use Rattle.std.proofs.Common.{◌≡◌, ◌++◌, ◌-◌, ℕ, List, Option, Some, drop, length, map}
use Rattle.crossbeam_deque.specs.Handles.{worker_view}
use Rattle.strip_steal.specs.Rule.{first_share}
use Rattle.strip_steal.specs.Steps.{with_entries}
use Rattle.strip_steal.specs.Taker.{entries_in, every}
use Rattle.strip_steal.proofs.deal.put_numbers.Given as goal

abbrev pub decreases-loop-at : goal.decreases-loop-at
decreases-loop-at l = length l.numbers - l.at

abbrev pub invariant-loop-at : goal.invariant-loop-at
invariant-loop-at l =
    (entries : List (Option ℕ)) × (worker_view l.owner ≡ with_entries first_share entries)
    × (entries ++ map (λ (number : ℕ). Some number) (every l.count 0 (drop l.at l.numbers)) ≡ entries_in l.count l.numbers l.place)
