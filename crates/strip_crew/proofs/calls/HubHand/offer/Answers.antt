use Rattle.strip_film.specs.Shown.{path_data}
use Rattle.strip_least.specs.Pass.{known as known_least}
use Rattle.strip_book.specs.Pass.{known}
use Rattle.strip_crew.proofs.Acting.{offers, offers_together}
use Rattle.strip_crew.proofs.calls.HubHand.offer.Goals as goal

pub returns-clause-told : goal.returns-clause-told
returns-clause-told g c =
    offers c.args.self.now.source (known_least c.args.self.now.told) (known c.args.self.now.lines) c.args.self.now.asked c.args.self.now.noted c.requires.sound.together
    (path_data c.args.path.now).paid c.offer.result (known_least c.offer.new.self) c.offer.ensures.told

pub returns-clause-sound : goal.returns-clause-sound
returns-clause-sound g c = record {
  least_pass = c.offer.ensures.pass;
  book_pass = c.requires.sound.book_pass;
  named = c.requires.sound.named;
  together = offers_together c.args.self.now.source (known_least c.args.self.now.told) (known c.args.self.now.lines) c.args.self.now.asked c.args.self.now.noted c.requires.sound.together
      (path_data c.args.path.now).paid c.offer.result (known_least c.offer.new.self) c.offer.ensures.told;
  search = c.requires.sound.search;
}
