use Rattle.std.proofs.Common.{ap}
use Rattle.strip_least.specs.Pass.{known as known_least}
use Rattle.strip_book.specs.View.{parts_of}
use Rattle.strip_book.specs.Pass.{known}
use Rattle.strip_crew.proofs.Acting.{lines_together, search_still}
use Rattle.strip_crew.proofs.calls.HubHand.probe.Goals as goal

pub returns-clause-sound : goal.returns-clause-sound
returns-clause-sound g c =
    let told = known_least c.args.self.now.told in
    let lines = known c.args.self.now.lines in
    let after = known c.probe-answer.new.pass in
    let parts = ap parts_of c.probe-answer.ensures.probed.entries in
    record {
      least_pass = c.requires.sound.least_pass;
      book_pass = c.probe-answer.ensures.pass;
      named = c.requires.sound.named;
      together = lines_together c.args.self.now.source told lines c.args.self.now.asked c.args.self.now.noted c.requires.sound.together after c.probe-answer.ensures.probed.stays.search parts;
      search = search_still c.args.self.now.source told lines c.args.self.now.asked c.args.self.now.noted c.requires.sound.together after c.probe-answer.ensures.probed.stays.search parts c.requires.sound.search;
    }
