-- What a race opens with.
use Rattle.std.proofs.Common.{◌∙◌, ◌≡◌, ℕ, suc, ◌≤◌, List, length, refl, sym, ap, subst, arith}
use Rattle.strip_model.specs.declared.kind.Kind.{Kind}
use Rattle.strip_model.specs.Film.{FilmData}
use Rattle.strip_film.specs.Film.{IsFilm}
use Rattle.strip_film.specs.Path.{PathData}
use Rattle.strip_lines.specs.Lines.{rules_of}
use Rattle.strip_hand.specs.Search.{AreStarts, GoesBy, SearchData}
use Rattle.strip_front.specs.Front.{FrontData, IsEmptyFront}
use Rattle.strip_least.specs.declared.least.Least.{Least}
use Rattle.strip_least.specs.declared.pass.LeastPass.{LeastPass}
use Rattle.strip_least.specs.declared.view.View.{View as LeastView}
use Rattle.strip_least.specs.Pass.{IsFirst as IsFirstLeast}
use Rattle.strip_least.specs.Rule.{first_view as first_told}
use Rattle.strip_book.specs.declared.book.Book.{Book}
use Rattle.strip_book.specs.declared.pass.BookPass.{BookPass}
use Rattle.strip_book.specs.Pass.{IsFirst as IsFirstBook, known}
use Rattle.strip_book.specs.View.{ViewData}
use Rattle.strip_crew.specs.declared.source.Source.TheVariants.{Counter}
use Rattle.strip_crew.specs.Hub.{GoTogether, IsSearch}
use Rattle.strip_crew.specs.Race.{MayBegin}

module _ (kind : Kind) (film : FilmData) (start : PathData) (nodes : ℕ) (tasks : List PathData) (front : FrontData)
    (least : Least) (told : LeastPass) (book : Book) (lines : BookPass) where
  abbrev search : SearchData
  search = record { film = film; kind = kind; nodes = nodes; start = start.paid; tasks = tasks }

  pub opened : IsFirstLeast film start (suc (length tasks)) least told → IsFirstBook search book lines → IsFilm film → AreStarts search
      → tasks ≡ front.tasks → 1 ≤ nodes → IsEmptyFront (rules_of kind film) front
      → MayBegin kind film front least book (record { told = told; lines = lines; source = Counter })
  opened first_least first_book is_film starts by_tasks some empty = record {
    are = record {
      least_pass = first_least.pass_of;
      book_pass = first_book.pass_of;
      named = refl;
      together = subst (λ (v : LeastView). GoTogether Counter v (known lines)) (sym first_least.knows)
          (subst (λ (v : ViewData). GoTogether Counter (first_told (record { film = film; start = start.paid; parts = suc (length tasks) })) v) (sym first_book.knows) (record {
            film = refl;
            start = refl;
            parts = refl;
            no_dearer = omega arith;
            begun = λ part. refl;
            once = λ part. omega arith;
            given = tt;
          }));
      search = subst IsSearch (sym first_book.knows) (record { film = is_film; tasks = starts });
    };
    full = record { told = ap (λ (v : LeastView). v.weight) first_least.knows; lines = ap (λ (v : ViewData). v.weight) first_book.knows; source = tt };
    counter = refl;
    search = subst (λ (v : ViewData). GoesBy kind film v.search) (sym first_book.knows) (refl, refl);
    some_lines = subst (λ (v : ViewData). 1 ≤ v.search.nodes) (sym first_book.knows) some;
    unclaimed = ap (λ (v : ViewData). v.entries) first_book.knows;
    unended = ap (λ (v : LeastView). v.ended) first_least.knows;
    unfilled = record {
      tasks = ap (λ (v : ViewData). v.search.tasks) first_book.knows ∙ by_tasks;
      empty = subst (λ (v : ViewData). IsEmptyFront (rules_of v.search.kind v.search.film) front) (sym first_book.knows) empty;
    };
  }
