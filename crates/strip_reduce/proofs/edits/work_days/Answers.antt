use Rattle.std.proofs.Common.{◌≡◌, ◌+◌, Bool, true, cond, get_or, sym, ap, ◌∙◌, arith}
use Rattle.strip_mask.specs.Set.{has}
use Rattle.strip_reduce.proofs.Days.{days_below, days_fit, days_more, days_none, days_within}
use Rattle.strip_reduce.proofs.edits.work_days.Goals as goal
use Rattle.strip_reduce.proofs.edits.work_days.Goals.{then-has, else-has}

pub loop-scene-init : goal.loop-scene-init
loop-scene-init c = sym (days_none c.args.casts.now c.args.days.now c.args.actor)

pub overflow_add-total : goal.overflow_add-total
overflow_add-total c =
    let works : has (get_or c.args.casts.now c.loop-scene.scene 0) c.args.actor ≡ true = sym c.has.ensures ∙ c.if-has.true in
    omega (arith, days_fit c.args.casts.now c.args.days.now c.loop-scene.scene c.args.actor works, c.loop-scene.invariant)

pub loop-scene-preserved : goal.loop-scene-preserved
loop-scene-preserved c =
    let casts = c.args.casts.now in
    let days = c.args.days.now in
    let i = c.loop-scene.scene in
    let works : c.has.result ≡ has (get_or casts i 0) c.args.actor = c.has.ensures in
    let so_far : c.loop-scene.total ≡ days_below casts days i c.args.actor = c.loop-scene.invariant in
    let more : days_below casts days (i + 1) c.args.actor ≡ days_below casts days i c.args.actor + cond c.has.result (get_or days i 0) 0 =
    days_more casts days i c.args.actor ∙ ap (λ (b : Bool). days_below casts days i c.args.actor + cond b (get_or days i 0) 0) (sym works) in
    elim c.if-has.branch [
      | then-has w ↦ (let here : cond c.has.result (get_or days i 0) 0 ≡ get_or days i 0 = ap (λ (b : Bool). cond b (get_or days i 0) 0) w.if-has.true in omega (arith, w.total-is))
      | else-has w ↦ (let here : cond c.has.result (get_or days i 0) 0 ≡ 0 = ap (λ (b : Bool). cond b (get_or days i 0) 0) w.if-has.false in omega (arith, w.total-is))
    ]

pub returns-clause-within : goal.returns-clause-within
returns-clause-within c = omega (arith, days_within c.args.casts.now c.args.days.now c.loop-scene.scene c.args.actor, c.loop-scene.invariant)
