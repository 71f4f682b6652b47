use Rattle.std.proofs.Common.{◌≡◌, ℕ, suc, ◌+◌, List, length, refl, ap, subst, arith}
use Rattle.std.proofs.lemmas.List.{length-map}
use Rattle.strip_model.specs.declared.kind.Kind.{Kind}
use Rattle.strip_model.specs.Film.{FilmData}
use Rattle.strip_film.specs.Film.{IsFilm}
use Rattle.strip_film.specs.Path.{PathData}
use Rattle.strip_film.specs.Shown.{path_data}
use Rattle.strip_hand.specs.Search.{AreStarts, SearchData}
use Rattle.strip_front.specs.Shown.{front_data}
use Rattle.strip_least.specs.Pass.{IsFirst as IsFirstLeast}
use Rattle.strip_book.specs.Pass.{IsFirst as IsFirstBook}
use Rattle.strip_crew.proofs.Opened.{opened}
use Rattle.strip_crew.proofs.racing.open.Goals as goal

pub overflow_cast-parts : goal.overflow_cast-parts
overflow_cast-parts g c =
    let starts : AreStarts (record { film = g.B.Bounds.film; kind = g.B.Bounds.kind; nodes = 0; start = 0; tasks = (front_data c.in_ok-front.front).tasks })
    = (c.tasks_are_starts.ensures
    (record { film = g.B.Bounds.film; kind = g.B.Bounds.kind; nodes = 0; start = 0; tasks = (front_data c.in_ok-front.front).tasks })
    (front_data c.in_ok-front.front).depth (subst IsFilm c.film-film.ensures c.keeps_limits.ensures)
    c.in_ok-front.ensures.empty.front_of.depth c.in_ok-front.ensures.empty.front_of.tasks).0 in
    omega (arith, starts.few, ap length c.tasks.ensures, length-map c.tasks.result.now path_data)

pub overflow_add-parts : goal.overflow_add-parts
overflow_add-parts g c =
    let starts : AreStarts (record { film = g.B.Bounds.film; kind = g.B.Bounds.kind; nodes = 0; start = 0; tasks = (front_data c.in_ok-front.front).tasks })
    = (c.tasks_are_starts.ensures
    (record { film = g.B.Bounds.film; kind = g.B.Bounds.kind; nodes = 0; start = 0; tasks = (front_data c.in_ok-front.front).tasks })
    (front_data c.in_ok-front.front).depth (subst IsFilm c.film-film.ensures c.keeps_limits.ensures)
    c.in_ok-front.ensures.empty.front_of.depth c.in_ok-front.ensures.empty.front_of.tasks).0 in
    omega (arith, starts.few, ap length c.tasks.ensures, length-map c.tasks.result.now path_data)

pub returns : goal.returns
returns g c =
    let kind : Kind = g.B.Bounds.kind in
    let film : FilmData = g.B.Bounds.film in
    let start : PathData = path_data c.args.start.now in
    let tasks : List PathData = (front_data c.in_ok-front.front).tasks in
    let search : SearchData = record { film = film; kind = kind; nodes = c.args.room; start = start.paid; tasks = tasks } in
    let is_film : IsFilm film = subst IsFilm c.film-film.ensures c.keeps_limits.ensures in
    let first_least : IsFirstLeast film start (suc (length tasks)) c.in_ok-least.least c.in_ok-least.told
    = subst (λ (parts : ℕ). IsFirstLeast film start parts c.in_ok-least.least c.in_ok-least.told)
    (let count : length c.tasks.result.now + 1 ≡ suc (length tasks) = omega (arith, ap length c.tasks.ensures, length-map c.tasks.result.now path_data) in count)
    (subst (λ (f : FilmData). IsFirstLeast f start (length c.tasks.result.now + 1) c.in_ok-least.least c.in_ok-least.told) c.film-film.ensures c.in_ok-least.ensures) in
    let first_book : IsFirstBook search c.in_ok-book.book c.in_ok-book.lines
    = subst (λ (s : SearchData). IsFirstBook s c.in_ok-book.book c.in_ok-book.lines)
    (λ i. record { film = c.film-film.ensures i; kind = c.kind.ensures i; nodes = c.args.room; start = c.paid.ensures i; tasks = c.tasks-2.ensures i })
    c.in_ok-book.ensures in
    record {
      may = opened kind film start c.args.room tasks (front_data c.in_ok-front.front) c.in_ok-least.least c.in_ok-least.told c.in_ok-book.book c.in_ok-book.lines
          first_least first_book is_film (c.tasks_are_starts.ensures
          (record { film = g.B.Bounds.film; kind = g.B.Bounds.kind; nodes = c.args.room; start = start.paid; tasks = (front_data c.in_ok-front.front).tasks })
          (front_data c.in_ok-front.front).depth (subst IsFilm c.film-film.ensures c.keeps_limits.ensures)
          c.in_ok-front.ensures.empty.front_of.depth c.in_ok-front.ensures.empty.front_of.tasks).0 refl c.requires.some c.in_ok-front.ensures.empty;
      start = ap (λ v. v.search.start) first_book.knows;
      nodes = ap (λ v. v.search.nodes) first_book.knows;
    }
