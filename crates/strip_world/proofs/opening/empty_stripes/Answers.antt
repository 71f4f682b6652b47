use Rattle.std.proofs.Common.{◌≡◌, ◌∙◌, ◌++◌, ℕ, [], ◌∷◌, replicate, ap, refl, arith}
use Rattle.std.proofs.lemmas.List.{replicate_more}
use Rattle.strip_world.proofs.opening.empty_stripes.Goals as goal

pub loop-stripe-init : goal.loop-stripe-init
loop-stripe-init c = (c.new-stripes.ensures.items, refl)

pub loop-stripe-preserved : goal.loop-stripe-preserved
loop-stripe-preserved c = (
  c.in_ok-push.ensures.items
      ∙ (λ i. c.loop-stripe.invariant.0 i ++ c.in_ok-new.ensures i ∷ [])
      ∙ replicate_more c.loop-stripe._stripe (replicate c.args.buckets []),
  refl,
)

pub returns : goal.returns
returns c = c.loop-stripe.invariant.0 ∙ (let all : c.loop-stripe._stripe ≡ 16 = omega (arith, c.loop-stripe-test) in ap (λ (n : ℕ). replicate n (replicate c.args.buckets [])) all)
