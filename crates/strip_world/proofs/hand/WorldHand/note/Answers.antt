use Rattle.strip_world.proofs.Acting.{notes, owned_noted}
use Rattle.strip_world.proofs.hand.WorldHand.note.Goals as goal

pub returns-clause-sound : goal.returns-clause-sound
returns-clause-sound c =
    owned_noted c.args.self.now c.requires.sound c.args.known.now c.note_as.new.self c.note_as.result c.requires.known c.note_as.ensures

pub returns-clause-noted : goal.returns-clause-noted
returns-clause-noted c =
    notes c.args.self.now c.requires.sound c.args.known.now c.note_as.new.self c.note_as.result c.note_as.ensures
