use Rattle.std.proofs.Common.{◌≡◌, ◌-◌}
use Rattle.strip_reduce.specs.Draft.{IsDraft, draft_state}
use Rattle.strip_reduce.specs.Reduction.{after_steps}
use Rattle.strip_reduce.proofs.classes.take_steps.Given as goal

-- the steps that are left lead from here where all lead from the start
abbrev pub invariant-loop-turn : goal.invariant-loop-turn
invariant-loop-turn l = record {
  steps : after_steps (l.most - l._turn) (draft_state l.draft) ≡ after_steps l.most (draft_state l.fn.draft);
  draft : IsDraft (draft_state l.draft) l.draft.compared;
}
