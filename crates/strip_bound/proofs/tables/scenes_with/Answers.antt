use Rattle.std.proofs.Common.{◌≡◌, ℕ, ◌+◌, length, sym, ap, ◌∙◌, subst, arith}
use Rattle.strip_mask.specs.declared.mask.Mask.{Mask}
use Rattle.strip_bound.proofs.Weights.{Tells, tells_none, tells_with, tells_past, tells_all}
use Rattle.strip_bound.proofs.tables.scenes_with.Goals.{then-has, else-has}
use Rattle.strip_bound.proofs.tables.scenes_with.Goals as goal

pub loop-scene-init : goal.loop-scene-init
loop-scene-init c = record { tells = tells_none c.args.casts.now c.args.actor }

pub loop-scene-preserved : goal.loop-scene-preserved
loop-scene-preserved c = record {
  tells = elim c.if-has.branch [
    | then-has w ↦ subst (λ (set : ℕ). Tells c.args.casts.now c.args.actor set (c.loop-scene.scene + 1)) (sym (ap (λ (mask : Mask). mask.0) w.scenes-is ∙ w.with-scenes.ensures))
        (tells_with c.args.casts.now c.args.actor c.loop-scene.scenes.0 c.loop-scene.scene c.loop-scene.invariant.tells (sym c.has.ensures ∙ w.if-has.true))
    | else-has w ↦ subst (λ (set : ℕ). Tells c.args.casts.now c.args.actor set (c.loop-scene.scene + 1)) (sym (ap (λ (mask : Mask). mask.0) w.scenes-is))
        (tells_past c.args.casts.now c.args.actor c.loop-scene.scenes.0 c.loop-scene.scene c.loop-scene.invariant.tells (sym c.has.ensures ∙ w.if-has.false))
  ];
}

pub returns : goal.returns
returns c =
    let at : c.loop-scene.scene ≡ length c.args.casts.now = omega (arith, c.loop-scene-test.false, c.loop-scene.auto.scene-end) in
    tells_all c.args.casts.now c.args.actor c.loop-scene.scenes.0 (subst (Tells c.args.casts.now c.args.actor c.loop-scene.scenes.0) at c.loop-scene.invariant.tells)
