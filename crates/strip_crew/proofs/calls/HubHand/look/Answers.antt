use Rattle.strip_least.specs.Pass.{known as known_least}
use Rattle.strip_book.specs.Pass.{known}
use Rattle.strip_crew.proofs.Acting.{looks, looks_together}
use Rattle.strip_crew.proofs.calls.HubHand.look.Goals as goal

pub returns-clause-told : goal.returns-clause-told
returns-clause-told g c =
    looks c.args.self.now.source (known_least c.args.self.now.told) (known c.args.self.now.lines) c.args.self.now.asked c.args.self.now.noted c.requires.together
    c.look.result (known_least c.look.new.self) c.look.ensures.told

pub returns-clause-sound : goal.returns-clause-sound
returns-clause-sound g c = record {
  least_pass = c.look.ensures.pass;
  book_pass = c.requires.book_pass;
  named = c.requires.named;
  together = looks_together c.args.self.now.source (known_least c.args.self.now.told) (known c.args.self.now.lines) c.args.self.now.asked c.args.self.now.noted c.requires.together
      c.look.result (known_least c.look.new.self) c.look.ensures.told;
  search = c.requires.search;
}
