-- What the workers of a test hold.
use Rattle.std.specs.Prelude.{◌≡◌, ℕ, ◌≤◌, None, List, [], length, slice_index_or}
use Rattle.strip_model.specs.declared.kind.Kind.{Kind}
use Rattle.strip_model.specs.Film.{FilmData}
use Rattle.strip_lines.specs.Parts.{no_task}
use Rattle.strip_hand.specs.Search.{GoesBy, SearchData}
use Rattle.strip_book.specs.declared.book.Book.{Book}
use Rattle.strip_book.specs.declared.pass.BookPass.{BookPass}
use Rattle.strip_book.specs.View.{EntryData, record_at}
use Rattle.strip_book.specs.Pass.{IsPassOf, known}

-- a search of so many tasks, each of them the path without a scene, which starts with an order that costs 14
pub record IsOfWholes (kind : Kind) (film : FilmData) (count : ℕ) (search : SearchData) : Type 0 where
  pub goes_by : GoesBy kind film search
  pub start : search.start ≡ 14
  pub wholes : (task : ℕ) → (slice_index_or search.tasks task no_task).scenes ≡ []
  pub tasks : length search.tasks ≡ count

-- no part from this one on was begun
abbrev pub AreFreshFrom : ℕ → List EntryData → Type 0
AreFreshFrom part entries = (other : ℕ) → part ≤ other → record_at other entries ≡ None

-- a pass of this search that has begun no part
pub record IsNew (kind : Kind) (film : FilmData) (count : ℕ) (book : Book) (pass : BookPass) : Type 0 where
  pub pass_of : IsPassOf book pass
  pub search : IsOfWholes kind film count (known pass).search
  pub none : (known pass).entries ≡ []

-- such a pass of weight 1
pub record IsWorker (kind : Kind) (film : FilmData) (count : ℕ) (book : Book) (pass : BookPass) : Type 0 where
  pub new : IsNew kind film count book pass
  pub one : (known pass).weight ≡ 1

-- a pass of weight 1
pub record IsOne (book : Book) (pass : BookPass) : Type 0 where
  pub pass_of : IsPassOf book pass
  pub one : (known pass).weight ≡ 1
