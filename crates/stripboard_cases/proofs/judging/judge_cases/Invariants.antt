use Rattle.std.proofs.Common.{◌≡◌, ◌+◌, ◌-◌, ◌^◌, ◌≤◌, min, All, take}
use Rattle.stripboard_cases.specs.Runs.{IsCaseMet}
use Rattle.stripboard_cases.proofs.judging.judge_cases.Given as goal

abbrev pub invariant-loop-case : goal.invariant-loop-case
invariant-loop-case g l = record {
  counted : l.tally.cases ≡ min (l.fn.tally.cases + l.case-index) (2 ^ 64 - 1);
  few : l.fn.tally.differing ≤ l.fn.tally.cases → l.tally.differing ≤ l.tally.cases;
  earlier : l.tally.differing ≡ 0 → l.fn.tally.differing ≡ 0;
  met : l.tally.differing ≡ 0 → All (IsCaseMet l.cases.shared.items) (take l.case-index l.cases.cases.items);
  unread : l.tally.is_unread ≡ l.fn.tally.is_unread;
}
