use Rattle.std.proofs.Common.{◌∙◌, ap, subst, arith}
use Rattle.strip_film.specs.Path.{PathData}
use Rattle.strip_film.specs.Shown.{path_data}
use Rattle.strip_film.proofs.Paths.{rest_lies}
use Rattle.strip_world.specs.declared.event.Event.{Event}
use Rattle.strip_world.specs.declared.event.Event.TheVariants.{Look, Offer, Claim, Enlist, Raise, Probe as Ask, Note}
use Rattle.strip_world.specs.declared.event.Reply.TheVariants.{Least, Task, Listed as HasListed, Raised as HasRaised, Probed, Noted as HasNoted}
use Rattle.strip_world.specs.Allowed.{IsAllowed, WorkerMayEnlist}
use Rattle.strip_world.specs.World.{WorldData}
use Rattle.strip_world.proofs.world.World.step.Goals as goal

pub claim_as-requires : goal.claim_as-requires
claim_as-requires g c = omega (arith, c.requires.sound.part_count, c.requires.sound.tasks.few)

pub bound-bound-requires-clause-lies : goal.bound-bound-requires-clause-lies
bound-bound-requires-clause-lies g c =
    let world : WorldData = c.args.self.now in
    let path : PathData = path_data c.in-Enlist.path in
    let may : WorkerMayEnlist world c.in-Enlist.who c.in-Enlist.task path = (subst (λ (e : Event). IsAllowed world e) c.in-Enlist.is c.requires.allowed).fitting in
    rw c.rest.ensures (rest_lies world.search.film path may.is_open.0)

pub returns-in-Look-clause-sound : goal.returns-in-Look-clause-sound
returns-in-Look-clause-sound g c =
    c.steps_keep_worlds_sound.ensures.steps c.args.self.now c.look_as.new.self (Look c.in-Look.who) (Least c.look_as.result) c.requires.sound
    (subst (λ (e : Event). IsAllowed c.args.self.now e) c.in-Look.is c.requires.allowed) (c.look_as.ensures.world, ap Least c.look_as.ensures.least)

pub returns-in-Offer-clause-sound : goal.returns-in-Offer-clause-sound
returns-in-Offer-clause-sound g c =
    c.steps_keep_worlds_sound.ensures.steps c.args.self.now c.offer_as.new.self (Offer c.in-Offer.who c.in-Offer.path) (Least c.offer_as.result) c.requires.sound
    (subst (λ (e : Event). IsAllowed c.args.self.now e) c.in-Offer.is c.requires.allowed)
    (c.offer_as.ensures.world, ap Least (c.offer_as.ensures.least ∙ ap (λ (w : WorldData). w.least) c.offer_as.ensures.world))

pub returns-in-Claim-clause-sound : goal.returns-in-Claim-clause-sound
returns-in-Claim-clause-sound g c =
    c.steps_keep_worlds_sound.ensures.steps c.args.self.now c.claim_as.new.self (Claim c.in-Claim.who) (Task c.claim_as.result) c.requires.sound
    (subst (λ (e : Event). IsAllowed c.args.self.now e) c.in-Claim.is c.requires.allowed) (c.claim_as.ensures.world, ap Task c.claim_as.ensures.task)

pub returns-in-Enlist-clause-sound : goal.returns-in-Enlist-clause-sound
returns-in-Enlist-clause-sound g c =
    c.steps_keep_worlds_sound.ensures.steps c.args.self.now c.enlist_as.new.self (Enlist c.in-Enlist.who c.in-Enlist.task c.in-Enlist.path) (HasListed c.enlist_as.result) c.requires.sound
    (subst (λ (e : Event). IsAllowed c.args.self.now e) c.in-Enlist.is c.requires.allowed) (c.enlist_as.ensures.world, ap HasListed c.enlist_as.ensures.listed)

pub returns-in-Raise-clause-sound : goal.returns-in-Raise-clause-sound
returns-in-Raise-clause-sound g c =
    c.steps_keep_worlds_sound.ensures.steps c.args.self.now c.raise_as.new.self (Raise c.in-Raise.who c.in-Raise.line c.in-Raise.bound) HasRaised c.requires.sound
    (subst (λ (e : Event). IsAllowed c.args.self.now e) c.in-Raise.is c.requires.allowed) (c.raise_as.ensures, λ i. HasRaised)

pub returns-in-Probe-clause-sound : goal.returns-in-Probe-clause-sound
returns-in-Probe-clause-sound g c =
    c.steps_keep_worlds_sound.ensures.steps c.args.self.now c.probe_as.new.self (Ask c.in-Probe.who c.in-Probe.set) (Probed c.probe_as.result) c.requires.sound
    (subst (λ (e : Event). IsAllowed c.args.self.now e) c.in-Probe.is c.requires.allowed) (c.probe_as.ensures.world, ap Probed c.probe_as.ensures.answer)

pub returns-in-Note-clause-sound : goal.returns-in-Note-clause-sound
returns-in-Note-clause-sound g c =
    c.steps_keep_worlds_sound.ensures.steps c.args.self.now c.note_as.new.self (Note c.in-Note.who c.in-Note.known) (HasNoted c.note_as.result) c.requires.sound
    (subst (λ (e : Event). IsAllowed c.args.self.now e) c.in-Note.is c.requires.allowed) (c.note_as.result, c.note_as.ensures, λ i. HasNoted c.note_as.result)
