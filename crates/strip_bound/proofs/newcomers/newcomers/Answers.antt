use Rattle.std.proofs.Common.{◌≡◌, ℕ, suc, ◌+◌, filter, sym, ap, ◌∙◌, arith}
use Rattle.strip_mask.specs.Set.{numbers_below, with}
use Rattle.strip_bound.specs.Bounds.{is_newcomer, set_of}
use Rattle.strip_bound.proofs.Coming.{set_of_kept, set_of_none, set_of_same}
use Rattle.strip_bound.proofs.newcomers.newcomers.Goals.{then-is_newcomer, else-is_newcomer}
use Rattle.strip_bound.proofs.newcomers.newcomers.Goals as goal

pub loop-actor-init : goal.loop-actor-init
loop-actor-init c = sym (set_of_none (is_newcomer c.args.film.now c.args.q.0))

pub loop-actor-preserved : goal.loop-actor-preserved
loop-actor-preserved c =
    let p = is_newcomer c.args.film.now c.args.q.0 in
    let n : ℕ = c.loop-actor.actor in
    let more : suc n ≡ n + 1 = omega arith in
    elim c.if-is_newcomer.branch [
      | then-is_newcomer w ↦ (λ i. (w.newcomers-is i).0) ∙ w.with-newcomers.ensures ∙ ap (λ (set : ℕ). with set n) c.loop-actor.invariant
          ∙ sym (set_of_kept p n (sym c.is_newcomer.ensures ∙ w.if-is_newcomer.true)) ∙ ap (λ (m : ℕ). set_of (filter p (numbers_below m))) more
      | else-is_newcomer w ↦ (λ i. (w.newcomers-is i).0) ∙ c.loop-actor.invariant
          ∙ sym (set_of_same p n (sym c.is_newcomer.ensures ∙ w.if-is_newcomer.false)) ∙ ap (λ (m : ℕ). set_of (filter p (numbers_below m))) more
    ]
