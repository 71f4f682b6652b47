use Rattle.std.proofs.Common.{◌≡◌, ◌∙◌, List, Some, arith, map, sym}
use Rattle.std.specs.List.{position}
use Rattle.std.proofs.lemmas.Bool.{leb-true}
use Rattle.strip_film.specs.declared.path.Path.{Path}
use Rattle.strip_film.specs.Shown.{path_data}
use Rattle.strip_paths.specs.Shown.{paths_of}
use Rattle.strip_paths.proofs.Placed.{leaves, put_nowhere, stands}
use Rattle.strip_paths.proofs.by_set.PathsBySet.has_as_cheap.Goals as goal

pub returns-in-Some : goal.returns-in-Some
returns-in-Some c = λ enough path rest_is paid_is.
    let items : List Path = c.args.self.now.paths.items in
    let some : position (leaves c.args.rest.0) (map path_data items) ≡ Some c.in-Some.place = sym c.place_of.ensures ∙ c.in-Some.is in
    sym (put_nowhere (paths_of c.args.self.now) path c.args.rest.0 c.in-Some.place (sym rest_is) some (path_data c.index.result.now)
    (stands items c.index.result.now path c.args.rest.0 c.in-Some.place (sym rest_is) some c.index.ensures)
    (omega (arith, leb-true c.paid.result c.args.paid enough, c.paid.ensures, paid_is)))
