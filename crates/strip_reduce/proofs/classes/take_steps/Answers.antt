use Rattle.std.proofs.Common.{◌≡◌, ℕ, suc, ◌+◌, ◌-◌, Bool, None, Some, sym, ap, ◌∙◌, subst, arith}
use Rattle.std.specs.Bool.{MatchBool}
use Rattle.strip_reduce.specs.State.{State}
use Rattle.strip_reduce.specs.Draft.{draft_state}
use Rattle.strip_reduce.specs.Reduction.{after_steps, next}
use Rattle.strip_reduce.proofs.Next.{after-none, after-some}
use Rattle.strip_reduce.proofs.classes.take_steps.Goals as goal

pub returns-then-not-branch-clause-steps : goal.returns-then-not-branch-clause-steps
returns-then-not-branch-clause-steps c =
    let here : State = draft_state c.loop-turn.draft in
    let there : State = draft_state c.step.new.self in
    let stopped : (next here ≡ None) × (there ≡ here) =
    subst (λ (went : Bool). MatchBool went (next here ≡ Some there) ((next here ≡ None) × (there ≡ here))) c.if-not-branch.true c.in_ok-step.ensures.went in
    stopped.1 ∙ sym (after-none (c.args.most - c.loop-turn._turn) here stopped.0) ∙ c.loop-turn.invariant.steps

pub loop-turn-preserved : goal.loop-turn-preserved
loop-turn-preserved c =
    let here : State = draft_state c.loop-turn.draft in
    let there : State = draft_state c.step.new.self in
    let went : next here ≡ Some there =
    subst (λ (went : Bool). MatchBool went (next here ≡ Some there) ((next here ≡ None) × (there ≡ here))) c.if-not-branch.false c.in_ok-step.ensures.went in
    let left : c.args.most - c.loop-turn._turn ≡ suc (c.args.most - (c.loop-turn._turn + 1)) = omega arith in
    record {
      steps = sym (ap (λ (n : ℕ). after_steps n here) left ∙ after-some (c.args.most - (c.loop-turn._turn + 1)) here there went) ∙ c.loop-turn.invariant.steps;
      draft = c.in_ok-step.ensures.stays;
    }
