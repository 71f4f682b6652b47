use Rattle.std.proofs.Common.{◌∙◌, ap, rules}
use Rattle.strip_film.specs.Path.{PathData}
use Rattle.strip_book.specs.View.{ViewData}
use Rattle.test_workers.specs.Team.{IsNew}
use Rattle.test_workers.proofs.Front.{are_wholes}
use Rattle.test_workers.proofs.team.lines_of_four.Goals as goal

pub make_all-requires-clause-pass : goal.make_all-requires-clause-pass
make_all-requires-clause-pass g c =
    let first = c.in_ok-book.ensures in
    let new : IsNew g.B.Bounds.kind g.B.Bounds.film 2500 c.in_ok-book.book c.in_ok-book.pass = record {
      pass_of = first.pass_of;
      search = are_wholes g.B.Bounds.kind c.kind.result g.B.Bounds.film c.film-film.result.now 2500 10000 c.start.result c.deref.result.now
          c.in_ok-book.pass.seat.me.0 c.kind.ensures c.film-film.ensures (ap (λ (p : PathData). p.scenes) c.start.ensures.start)
          (c.deref.ensures.value ∙ c.in_ok-tasks.ensures.items_if_clones_equal (search rules)) first.knows;
      none = ap (λ (v : ViewData). v.entries) first.knows;
    } in
    λ lifetimes outlive. new
