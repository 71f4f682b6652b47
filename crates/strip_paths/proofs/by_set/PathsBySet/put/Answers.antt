use Rattle.std.proofs.Common.{◌∙◌, [], ◌∷◌, ap, arith, map, sym}
use Rattle.std.proofs.lemmas.List.{map-append, map-set}
use Rattle.strip_film.specs.Shown.{path_data}
use Rattle.strip_paths.specs.Shown.{paths_of}
use Rattle.strip_paths.proofs.Placed.{put_end, put_nowhere, put_there, same_rests, stands}
use Rattle.strip_paths.proofs.Rests.{rests}
use Rattle.strip_paths.proofs.by_set.PathsBySet.put.Goals as goal

pub invariant_of-self : goal.invariant_of-self
invariant_of-self c = record {
  by_set = c.args.self.now.by_set
      ∙ sym (same_rests (paths_of c.args.self.now) (path_data c.args.path.now) c.rest.result.0 c.in-Some.place c.rest.ensures (sym c.place_of.ensures ∙ c.in-Some.is))
      ∙ sym (ap rests (map-set path_data c.args.self.now.paths.items c.in-Some.place c.args.path.now));
}

pub returns-in_ok-push-in-None : goal.returns-in_ok-push-in-None
returns-in_ok-push-in-None c =
    ap (map path_data) c.in_ok-push-in-None.ensures
    ∙ map-append path_data c.args.self.now.paths.items (c.args.path.now ∷ [])
    ∙ put_end (paths_of c.args.self.now) (path_data c.args.path.now) c.rest.result.0 c.rest.ensures (sym c.place_of.ensures ∙ c.in-None.is)

pub returns-then-paid : goal.returns-then-paid
returns-then-paid c =
    map-set path_data c.args.self.now.paths.items c.in-Some.place c.args.path.now
    ∙ put_there (paths_of c.args.self.now) (path_data c.args.path.now) c.rest.result.0 c.in-Some.place c.rest.ensures (sym c.place_of.ensures ∙ c.in-Some.is)
    (path_data c.index.result.now)
    (stands c.args.self.now.paths.items c.index.result.now (path_data c.args.path.now) c.rest.result.0 c.in-Some.place c.rest.ensures (sym c.place_of.ensures ∙ c.in-Some.is) c.index.ensures)
    (omega (arith, c.paid.ensures, c.paid-in-Some.ensures, c.if-paid.true))

pub returns-else-paid : goal.returns-else-paid
returns-else-paid c =
    put_nowhere (paths_of c.args.self.now) (path_data c.args.path.now) c.rest.result.0 c.in-Some.place c.rest.ensures (sym c.place_of.ensures ∙ c.in-Some.is)
    (path_data c.index.result.now)
    (stands c.args.self.now.paths.items c.index.result.now (path_data c.args.path.now) c.rest.result.0 c.in-Some.place c.rest.ensures (sym c.place_of.ensures ∙ c.in-Some.is) c.index.ensures)
    (omega (arith, c.paid.ensures, c.paid-in-Some.ensures, c.if-paid.false))
