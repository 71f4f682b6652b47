use Rattle.std.proofs.Common.{ℕ, Option, sym, subst}
use Rattle.strip_hand.specs.Calls.{Claims}
use Rattle.strip_world.specs.Hand.{IsOwned, hand_data}
use Rattle.strip_world.specs.Steps.{claim_reply}
use Rattle.strip_world.specs.World.{WorldData}
use Rattle.strip_world.proofs.Acting.{claims, owned_claimed}
use Rattle.strip_world.proofs.hand.WorldHand.claim.Goals as goal

pub returns-clause-sound : goal.returns-clause-sound
returns-clause-sound c = subst IsOwned (sym c.claim_as.ensures.world) (owned_claimed c.args.self.now c.requires)

pub returns-clause-claimed : goal.returns-clause-claimed
returns-clause-claimed c =
    subst (λ (reply : Option ℕ). Claims (hand_data c.args.self.now) reply (hand_data c.claim_as.new.self)) (sym c.claim_as.ensures.task)
    (subst (λ (after : WorldData). Claims (hand_data c.args.self.now) (claim_reply c.args.self.now) (hand_data after)) (sym c.claim_as.ensures.world)
    (claims c.args.self.now c.requires))
