-- What a hub shows, what holds of it, and what it stands over.
use Rattle.std.specs.Prelude.{◌≡◌, ℕ, suc, ◌+◌, ◌≤◌, Option, length}
use Rattle.std.specs.Option.{option_map}
use Rattle.strip_film.specs.declared.shared.Known.{Known}
use Rattle.strip_film.specs.Film.{IsFilm}
use Rattle.strip_hand.specs.Hand.{HandData, ProbeData}
use Rattle.strip_hand.specs.Search.{AreStarts}
use Rattle.strip_least.specs.declared.least.Least.{Least}
use Rattle.strip_least.specs.declared.pass.LeastPass.{LeastPass}
use Rattle.strip_least.specs.declared.view.View.{View as LeastView}
use Rattle.strip_least.specs.Pass.{IsPassOf as IsLeastPassOf, known as known_least}
use Rattle.strip_least.specs.Rule.{times}
use Rattle.strip_least.specs.Steps.{AreOnce}
use Rattle.strip_book.specs.declared.book.Book.{Book}
use Rattle.strip_book.specs.declared.pass.BookPass.{BookPass}
use Rattle.strip_book.specs.View.{ViewData, parts_of, record_at}
use Rattle.strip_book.specs.Pass.{IsPassOf as IsBookPassOf, TableData, known, table_of}
use Rattle.strip_crew.specs.declared.asked.Asked.{Asked}
use Rattle.strip_crew.specs.declared.source.Source.{Source}
use Rattle.strip_crew.specs.Source.{IsSource, SourceHome, has_ended, source_home, taken_by}

abbrev pub probe_data : Asked → ProbeData
probe_data asked = record { set = asked.set; answer = asked.answer }

-- the hand that two passes and a source of parts are, with a last probe and a last note; it is never refused memory
abbrev pub hand_of : Source → LeastView → ViewData → Option Asked → Option Known → HandData
hand_of source told lines asked noted = record {
  search = lines.search;
  told = told.told;
  lines = lines.lines;
  records = λ part. record_at part lines.entries;
  probe = option_map probe_data asked;
  note = noted;
  refusals = 0;
  ended = has_ended source told.ended;
}

-- a pass of the two words and a pass of the book go by the same film and start, with a part for the front and for
-- each task, and the parts that the one began are those that the other claimed or that the source gave, none twice
pub record GoTogether (source : Source) (told : LeastView) (lines : ViewData) : Type 0 where
  pub film : told.film ≡ lines.search.film
  pub start : told.start ≡ lines.search.start
  pub parts : told.parts ≡ suc (length lines.search.tasks)
  pub no_dearer : told.told ≤ told.start
  pub begun : (part : ℕ) → times part (parts_of lines.entries) ≡ times part told.claims + times part (taken_by source)
  pub once : AreOnce (parts_of lines.entries)
  pub given : IsSource source told.parts told.claims

-- the film and the tasks of a search are those of one
pub record IsSearch (lines : ViewData) : Type 0 where
  pub film : IsFilm lines.search.film
  pub tasks : AreStarts lines.search

-- the passes are of these two words and of this book, which is the one that the table's entries are of, and they go
-- together
pub record IsHub (table : TableData) (least : Least) (book : Book) (source : Source) (told : LeastPass) (lines : BookPass) : Type 0 where
  pub least_pass : IsLeastPassOf least told
  pub book_pass : IsBookPassOf book lines
  pub named : table_of book ≡ table
  pub together : GoTogether source (known_least told) (known lines)
  pub search : IsSearch (known lines)

-- what a hub stands over: the words, the book, its source, and how much its passes weigh
pub record HubHome : Type 0 where
  pub least : Least
  pub book : Book
  pub source : SourceHome
  pub told_weight : ℕ
  pub lines_weight : ℕ

abbrev pub home_of : Least → Book → Source → LeastView → ViewData → HubHome
home_of least book source told lines = record { least = least; book = book; source = source_home source; told_weight = told.weight; lines_weight = lines.weight }
