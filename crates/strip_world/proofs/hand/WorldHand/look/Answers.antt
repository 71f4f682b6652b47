use Rattle.std.proofs.Common.{ℕ, sym, subst}
use Rattle.strip_hand.specs.Calls.{Tells}
use Rattle.strip_world.specs.Hand.{IsOwned, hand_data}
use Rattle.strip_world.specs.World.{WorldData}
use Rattle.strip_world.proofs.Acting.{looks, owned_looked}
use Rattle.strip_world.proofs.hand.WorldHand.look.Goals as goal

pub returns-clause-sound : goal.returns-clause-sound
returns-clause-sound c = subst IsOwned (sym c.look_as.ensures.world) (owned_looked c.args.self.now c.requires)

pub returns-clause-told : goal.returns-clause-told
returns-clause-told c =
    subst (λ (least : ℕ). Tells (hand_data c.args.self.now) least (hand_data c.look_as.new.self)) (sym c.look_as.ensures.least)
    (subst (λ (after : WorldData). Tells (hand_data c.args.self.now) c.args.self.now.least (hand_data after)) (sym c.look_as.ensures.world)
    (looks c.args.self.now c.requires))
