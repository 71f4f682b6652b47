use Rattle.std.proofs.Common.{◌≡◌, ℕ, true, false, slice_index, sym, ap, ◌∙◌, inl, inr, arith}
use Rattle.std.proofs.lemmas.Bool.{false≢true}
use Rattle.strip_mask.specs.Set.{has, with}
use Rattle.strip_mask.specs.declared.mask.Mask.{Mask}
use Rattle.strip_mask.proofs.ByMembers.{has-empty, has_from_with}
use Rattle.strip_arrivals.proofs.Sets.{works_past, works_whole, works_with}
use Rattle.strip_arrivals.proofs.table.scenes_of.Goals.{then-has, else-has}
use Rattle.strip_arrivals.proofs.table.scenes_of.Goals as goal

pub loop-scene-init : goal.loop-scene-init
loop-scene-init c = record { told = λ scene lt. absurd (omega (arith, lt)); lies = λ i there. absurd (false≢true (sym (has-empty i) ∙ there)) }

pub loop-scene-preserved : goal.loop-scene-preserved
loop-scene-preserved c = elim c.if-has.branch [
  | then-has w ↦ (
      let is : c.if-has.scenes.0 ≡ with c.loop-scene.scenes.0 c.loop-scene.scene = ap (λ (mask : Mask). mask.0) w.scenes-is ∙ w.with-scenes.ensures in
      let works : has (slice_index c.args.casts.now c.loop-scene.scene) c.args.actor ≡ true = sym c.has.ensures ∙ w.if-has.true in
      record {
        told = λ scene lt. ap (λ (set : ℕ). has set scene) is
            ∙ works_with c.args.casts.now c.args.actor c.loop-scene.scene c.loop-scene.scenes.0 c.loop-scene.invariant.told works scene lt;
        lies = λ i there. elim (has_from_with c.loop-scene.scenes.0 c.loop-scene.scene i (ap (λ (set : ℕ). has set i) (sym is) ∙ there)) [
          | inl same ↦ omega (arith, same)
          | inr before ↦ (let lt = c.loop-scene.invariant.lies i before in omega (arith, lt))
        ];
      })
  | else-has w ↦ (
      let is : c.if-has.scenes.0 ≡ c.loop-scene.scenes.0 = ap (λ (mask : Mask). mask.0) w.scenes-is in
      let lacks : has (slice_index c.args.casts.now c.loop-scene.scene) c.args.actor ≡ false = sym c.has.ensures ∙ w.if-has.false in
      record {
        told = λ scene lt. ap (λ (set : ℕ). has set scene) is
            ∙ works_past c.args.casts.now c.args.actor c.loop-scene.scene c.loop-scene.scenes.0 c.loop-scene.invariant.told c.loop-scene.invariant.lies lacks scene lt;
        lies = λ i there. (let lt = c.loop-scene.invariant.lies i (ap (λ (set : ℕ). has set i) (sym is) ∙ there) in omega (arith, lt));
      })
]

pub returns : goal.returns
returns c = works_whole c.args.casts.now c.args.actor c.loop-scene.scenes.0
    (λ scene lt. c.loop-scene.invariant.told scene (omega (arith, lt, c.loop-scene-test.false)))
    (λ i there. (let lt = c.loop-scene.invariant.lies i there in omega (arith, lt, c.loop-scene.auto)))
