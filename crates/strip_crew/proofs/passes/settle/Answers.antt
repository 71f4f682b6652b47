use Rattle.std.proofs.Common.{refl, sym, subst, ap}
use Rattle.strip_film.specs.Film.{IsFilm}
use Rattle.strip_hand.specs.Search.{AreStarts, SearchData}
use Rattle.strip_least.specs.Pass.{known as known_least}
use Rattle.strip_book.specs.View.{record_at}
use Rattle.strip_book.specs.Pass.{known, table_of}
use Rattle.strip_crew.proofs.Settled.{counts, goes_on, has_all, limits_of, settled_together}
use Rattle.strip_crew.proofs.passes.settle.Goals as goal

pub returns-clause-passes : goal.returns-clause-passes
returns-clause-passes c = record {
  least_pass = c.settle.ensures.pass;
  book_pass = c.settle-2.ensures.pass;
  named = c.requires.named;
  together = settled_together c.args.passes.now.source (known_least c.args.passes.now.told) (known_least c.settle.new.self) (known c.args.passes.now.lines) (known c.settle-2.new.self)
      c.requires.together c.settle.ensures.settled c.settle-2.ensures.settled;
  search = record {
    film = subst (λ (search : SearchData). IsFilm search.film) (sym c.settle-2.ensures.settled.stays.search) c.requires.search.film;
    tasks = subst AreStarts (sym c.settle-2.ensures.settled.stays.search) c.requires.search.tasks;
  };
}

pub returns-clause-settled : goal.returns-clause-settled
returns-clause-settled c =
    let told = known_least c.args.passes.now.told in
    let after = known_least c.settle.new.self in
    let lines = known c.args.passes.now.lines in
    let more = known c.settle-2.new.self in
    record {
      goes_on = goes_on c.args.passes.now.source told after lines more c.requires.together c.settle.ensures.settled c.settle-2.ensures.settled;
      records = λ part. ap (record_at part) c.settle-2.ensures.settled.entries;
      source = refl;
      counts = λ weigh. counts c.args.passes.now.source told after lines more c.requires.together c.settle.ensures.settled c.settle-2.ensures.settled
          c.lines_of_entries_are_counted.ensures
          (subst (λ (search : SearchData). IsFilm search.film) (sym c.settle-2.ensures.settled.stays.search) c.requires.search.film)
          c.settle-2.ensures.pass.entries (c.settle-2.ensures.settled.all weigh.lines);
      all = λ weigh left. has_all c.args.passes.now.source told after lines more c.requires.together c.settle.ensures.settled c.settle-2.ensures.settled
          weigh.source left (c.settle.ensures.settled.each weigh.told);
    }

pub returns-clause-limits : goal.returns-clause-limits
returns-clause-limits c =
    limits_of (table_of c.args.book.now) c.args.least.now c.args.book.now c.args.passes.now.source c.settle.new.self c.settle-2.new.self c.entries_are_records.ensures
    (returns-clause-passes c)
