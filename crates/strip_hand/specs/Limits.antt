-- How many workers, lines and entries of the table a search may have.
use Rattle.std.specs.Prelude.{◌≤◌}
use Rattle.strip_hand.specs.declared.limits.Limits.{Limits}

pub record AreLimits (limits : Limits) : Type 0 where
  pub some_workers : 1 ≤ limits.workers
  pub few_workers : limits.workers ≤ 64
  pub some_lines : 1 ≤ limits.nodes
  pub few_lines : limits.nodes ≤ 16777216
  pub some_entries : 64 ≤ limits.entries
  pub few_entries : limits.entries ≤ 4194304
