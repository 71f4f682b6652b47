use Rattle.std.proofs.Common.{◌+◌, ◌≤◌, vec_len}
use Rattle.stripboard_cases.proofs.reading.push_turns.Given as goal

abbrev pub invariant-loop-number : goal.invariant-loop-number
invariant-loop-number l = vec_len l.fn.cases + l.number ≤ vec_len l.cases
