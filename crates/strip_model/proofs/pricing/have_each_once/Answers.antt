use Rattle.std.proofs.Common.{◌∙◌, sym, refl, below_more, arith}
use Rattle.strip_model.proofs.pricing.have_each_once.Goals as goal

pub returns-then-times_in-ne1 : goal.returns-then-times_in-ne1
returns-then-times_in-ne1 c =
    (λ no. (cc), λ each. absurd (c.if-times_in-ne1.true (c.times_in.ensures ∙ each c.loop-scene.scene c.loop-scene-test.true)))

pub loop-scene-preserved : goal.loop-scene-preserved
loop-scene-preserved c = below_more _ _ c.loop-scene.invariant (sym c.times_in.ensures ∙ c.if-times_in-ne1.false)

pub returns : goal.returns
returns c = (λ yes scene before. c.loop-scene.invariant scene (omega arith), λ each. refl)
