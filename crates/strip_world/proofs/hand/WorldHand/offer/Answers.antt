use Rattle.std.proofs.Common.{ℕ, sym, subst}
use Rattle.strip_film.specs.Shown.{path_data}
use Rattle.strip_hand.specs.Calls.{Tells}
use Rattle.strip_world.specs.Hand.{IsOwned, hand_data}
use Rattle.strip_world.specs.World.{WorldData}
use Rattle.strip_world.proofs.Acting.{offers, owned_offered}
use Rattle.strip_world.proofs.hand.WorldHand.offer.Goals as goal

pub returns-clause-sound : goal.returns-clause-sound
returns-clause-sound c =
    subst IsOwned (sym c.offer_as.ensures.world) (owned_offered c.args.self.now c.requires.sound (path_data c.args.path.now) c.requires.complete)

pub returns-clause-told : goal.returns-clause-told
returns-clause-told c =
    subst (λ (least : ℕ). Tells (hand_data c.args.self.now) least (hand_data c.offer_as.new.self)) (sym c.offer_as.ensures.least)
    (subst (λ (after : WorldData). Tells (hand_data c.args.self.now) after.least (hand_data after)) (sym c.offer_as.ensures.world)
    (offers c.args.self.now c.requires.sound (path_data c.args.path.now) c.requires.complete))
