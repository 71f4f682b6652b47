use Rattle.std.proofs.Common.{◌∙◌, sym, subst, ap, arith}
use Rattle.strip_film.specs.Film.{IsFilm}
use Rattle.strip_hand.specs.Search.{AreStarts, SearchData}
use Rattle.strip_least.specs.declared.view.View.{View as LeastView}
use Rattle.strip_least.specs.Pass.{known as known_least}
use Rattle.strip_book.specs.Pass.{known}
use Rattle.strip_crew.specs.Sources.{NoneLeft}
use Rattle.strip_crew.proofs.Joined.{joined_together, takes_over}
use Rattle.strip_crew.proofs.passes.join.Goals as goal

pub returns-clause-takes_over : goal.returns-clause-takes_over
returns-clause-takes_over c =
    takes_over c.other_parts_have_no_record.ensures c.args.into.now.source c.args.other.source c.join_source.new.into
    (known_least c.args.into.now.told) (known_least c.args.other.told) (known_least c.join.new.self)
    (known c.args.into.now.lines) (known c.args.other.lines) (known c.join-2.new.self) c.requires.into.together c.requires.other.together
    c.join-2.ensures.joined c.join.ensures.joined c.join.ensures.once c.join_source.ensures
    (c.requires.into.book_pass.search ∙ sym c.requires.other.book_pass.search) c.join-2.ensures.pass.few

pub returns-clause-passes : goal.returns-clause-passes
returns-clause-passes c = record {
  least_pass = c.join.ensures.pass;
  book_pass = c.join-2.ensures.pass;
  named = c.requires.into.named;
  together = joined_together c.other_parts_have_no_record.ensures c.args.into.now.source c.args.other.source c.join_source.new.into
      (known_least c.args.into.now.told) (known_least c.args.other.told) (known_least c.join.new.self)
      (known c.args.into.now.lines) (known c.args.other.lines) (known c.join-2.new.self) c.requires.into.together c.requires.other.together
      c.join-2.ensures.joined c.join.ensures.joined c.join.ensures.once c.join_source.ensures
      (c.requires.into.book_pass.search ∙ sym c.requires.other.book_pass.search);
  search = record {
    film = subst (λ (search : SearchData). IsFilm search.film) (sym c.join-2.ensures.joined.search) c.requires.into.search.film;
    tasks = subst AreStarts (sym c.join-2.ensures.joined.search) c.requires.into.search.tasks;
  };
}

pub returns-clause-heavier : goal.returns-clause-heavier
returns-clause-heavier c = λ weight one more. record {
  told = ap (λ (v : LeastView). v.weight) c.join.ensures.joined ∙ (let first = one.told in let second = more.told in omega (arith, first, second));
  lines = c.join-2.ensures.joined.weight ∙ (let first = one.lines in let second = more.lines in omega (arith, first, second));
  source = c.join_source.ensures.weight weight one.source;
}

pub returns-clause-left : goal.returns-clause-left
returns-clause-left c = λ left.
    subst (NoneLeft c.join_source.new.into) (sym (ap (λ (v : LeastView). v.ended) c.join.ensures.joined))
    (c.join_source.ensures.left (known_least c.args.into.now.told).ended (known_least c.args.other.told).ended left)
