use Rattle.std.proofs.Common.{◌≡◌, ℕ, Option, Some, None, sym, subst}
use Rattle.strip_film.specs.Film.{IsFilm}
use Rattle.strip_hand.specs.Calls.{Claims}
use Rattle.strip_hand.specs.Search.{AreStarts, SearchData}
use Rattle.strip_least.specs.declared.view.View.{View}
use Rattle.strip_least.specs.Pass.{known as known_least}
use Rattle.strip_book.specs.Pass.{known}
use Rattle.strip_crew.specs.declared.source.Source.{Source}
use Rattle.strip_crew.specs.Source.{Draws, DrawsNone, DrawsPart}
use Rattle.strip_crew.specs.Hub.{hand_of}
use Rattle.strip_crew.proofs.Acting.{begins_together, claims, ends, ends_together, may_begin}
use Rattle.strip_crew.proofs.calls.HubHand.claim.Goals as goal

-- a part was given, where that is what the source answered
drawn_as : (source after_source : Source) (told after : View) (answer : Option ℕ) (part : ℕ) → answer ≡ Some part → Draws source told answer after_source after
    → DrawsPart source told part after_source after
drawn_as source after_source told after answer part is draws = subst (λ (one : Option ℕ). Draws source told one after_source after) is draws

-- none is left, where that is what the source answered
none_as : (source after_source : Source) (told after : View) (answer : Option ℕ) → answer ≡ None → Draws source told answer after_source after
    → DrawsNone source told after_source after
none_as source after_source told after answer is draws = subst (λ (one : Option ℕ). Draws source told one after_source after) is draws

pub begin-requires-clause-may : goal.begin-requires-clause-may
begin-requires-clause-may g c =
    may_begin c.args.self.now.source (known_least c.args.self.now.told) (known c.args.self.now.lines) c.args.self.now.asked c.args.self.now.noted c.requires.together
    c.other_parts_have_no_record.ensures c.in_ok-part.part c.next_part.new.source (known_least c.next_part.new.told)
    (drawn_as c.args.self.now.source c.next_part.new.source (known_least c.args.self.now.told) (known_least c.next_part.new.told) c.next_part.result c.in_ok-part.part c.in_ok-part.was c.next_part.ensures.draws)

pub returns-clause-claimed : goal.returns-clause-claimed
returns-clause-claimed g c =
    claims c.args.self.now.source (known_least c.args.self.now.told) (known c.args.self.now.lines) c.args.self.now.asked c.args.self.now.noted c.requires.together
    c.other_parts_have_no_record.ensures c.in_ok-part.part c.next_part.new.source (known_least c.next_part.new.told)
    (drawn_as c.args.self.now.source c.next_part.new.source (known_least c.args.self.now.told) (known_least c.next_part.new.told) c.next_part.result c.in_ok-part.part c.in_ok-part.was c.next_part.ensures.draws)
    (known c.begin.new.self) c.begin.ensures.begun

pub returns-clause-sound : goal.returns-clause-sound
returns-clause-sound g c = record {
  least_pass = c.next_part.ensures.pass;
  book_pass = c.begin.ensures.pass;
  named = c.requires.named;
  together = begins_together c.args.self.now.source (known_least c.args.self.now.told) (known c.args.self.now.lines) c.args.self.now.asked c.args.self.now.noted c.requires.together
      c.other_parts_have_no_record.ensures c.in_ok-part.part c.next_part.new.source (known_least c.next_part.new.told)
      (drawn_as c.args.self.now.source c.next_part.new.source (known_least c.args.self.now.told) (known_least c.next_part.new.told) c.next_part.result c.in_ok-part.part c.in_ok-part.was c.next_part.ensures.draws)
      (known c.begin.new.self) c.begin.ensures.begun;
  search = record {
    film = subst (λ (search : SearchData). IsFilm search.film) (sym c.begin.ensures.begun.stays.search) c.requires.search.film;
    tasks = subst AreStarts (sym c.begin.ensures.begun.stays.search) c.requires.search.tasks;
  };
}

pub returns-in_err-part-clause-claimed : goal.returns-in_err-part-clause-claimed
returns-in_err-part-clause-claimed g c =
    subst (λ (answer : Option ℕ). Claims (hand_of c.args.self.now.source (known_least c.args.self.now.told) (known c.args.self.now.lines) c.args.self.now.asked c.args.self.now.noted) answer
    (hand_of c.next_part.new.source (known_least c.next_part.new.told) (known c.args.self.now.lines) c.args.self.now.asked c.args.self.now.noted)) (sym c.from_residual.ensures)
    (ends c.args.self.now.source (known_least c.args.self.now.told) (known c.args.self.now.lines) c.args.self.now.asked c.args.self.now.noted c.requires.together
    c.next_part.new.source (known_least c.next_part.new.told)
    (none_as c.args.self.now.source c.next_part.new.source (known_least c.args.self.now.told) (known_least c.next_part.new.told) c.next_part.result c.in_err-part.was c.next_part.ensures.draws))

pub returns-in_err-part-clause-sound : goal.returns-in_err-part-clause-sound
returns-in_err-part-clause-sound g c = record {
  least_pass = c.next_part.ensures.pass;
  book_pass = c.requires.book_pass;
  named = c.requires.named;
  together = ends_together c.args.self.now.source (known_least c.args.self.now.told) (known c.args.self.now.lines) c.args.self.now.asked c.args.self.now.noted c.requires.together
      c.next_part.new.source (known_least c.next_part.new.told)
      (none_as c.args.self.now.source c.next_part.new.source (known_least c.args.self.now.told) (known_least c.next_part.new.told) c.next_part.result c.in_err-part.was c.next_part.ensures.draws);
  search = c.requires.search;
}
