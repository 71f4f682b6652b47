use Rattle.std.proofs.Common.{Ok, sym, subst}
use Rattle.strip_film.specs.declared.shared.Probe.{Probe}
use Rattle.strip_hand.specs.Calls.{Probes}
use Rattle.strip_world.specs.Hand.{IsOwned, hand_data}
use Rattle.strip_world.specs.Steps.{found}
use Rattle.strip_world.specs.World.{WorldData}
use Rattle.strip_world.proofs.Acting.{probes, owned_probed}
use Rattle.strip_world.proofs.hand.WorldHand.probe.Goals as goal

pub returns-clause-sound : goal.returns-clause-sound
returns-clause-sound c = subst IsOwned (sym c.probe_as.ensures.world) (owned_probed c.args.self.now c.requires.sound c.args.set.0)

pub returns-clause-probed : goal.returns-clause-probed
returns-clause-probed c =
    subst (λ (answer : Probe). Probes (hand_data c.args.self.now) c.args.set.0 (Ok answer) (hand_data c.probe_as.new.self)) (sym c.probe_as.ensures.answer)
    (subst (λ (after : WorldData). Probes (hand_data c.args.self.now) c.args.set.0 (Ok (found c.args.self.now c.args.set.0)) (hand_data after))
    (sym c.probe_as.ensures.world) (probes c.args.self.now c.requires.sound c.the_entry_of_a_set_is_found.ensures c.args.set.0))
