use Rattle.std.proofs.Common.{Ok, sym, subst}
use Rattle.strip_hand.specs.Calls.{Raises}
use Rattle.strip_world.specs.Hand.{IsOwned, hand_data}
use Rattle.strip_world.specs.World.{WorldData}
use Rattle.strip_world.proofs.Acting.{raises, owned_raised}
use Rattle.strip_world.proofs.hand.WorldHand.raise.Goals as goal

pub returns-clause-sound : goal.returns-clause-sound
returns-clause-sound c =
    subst IsOwned (sym c.raise_as.ensures) (owned_raised c.args.self.now c.requires.sound c.args.line c.args.bound c.requires.may)

pub returns-clause-raised : goal.returns-clause-raised
returns-clause-raised c =
    subst (λ (after : WorldData). Raises (hand_data c.args.self.now) c.args.line c.args.bound (Ok (record {})) (hand_data after)) (sym c.raise_as.ensures)
    (raises c.args.self.now c.requires.sound c.args.line c.args.bound c.requires.may)
