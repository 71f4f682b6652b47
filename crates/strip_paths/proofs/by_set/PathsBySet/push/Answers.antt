use Rattle.std.proofs.Common.{◌≡◌, ◌∙◌, [], ◌∷◌, ap, arith, map, nat_eq, sym}
use Rattle.std.proofs.lemmas.List.{map-append}
use Rattle.indexmap.specs.IndexSet.{insert_key}
use Rattle.strip_film.specs.Shown.{path_data}
use Rattle.strip_paths.specs.Shown.{paths_of}
use Rattle.strip_paths.proofs.Results.{on_ok}
use Rattle.strip_paths.proofs.Rests.{rests, rests_pushed}
use Rattle.strip_paths.proofs.by_set.PathsBySet.push.Goals as goal

pub invariant_of-self-2 : goal.invariant_of-self-2
invariant_of-self-2 c = record {
  by_set = on_ok c.insert.result (c.insert.new.self.keys ≡ insert_key nat_eq c.reserve.new.self.keys c.rest.result.0)
      (c.insert.ensures.succeeds (omega (arith, c.in_ok-reserve.ensures.ok))) c.insert.ensures.keys
      ∙ rests_pushed c.reserve.new.self.keys (paths_of c.args.self.now) (path_data c.args.path.now) c.rest.result.0
      (c.reserve.ensures.keys ∙ c.args.self.now.by_set) c.rest.ensures c.requires.new
      ∙ sym (ap rests (ap (map path_data) c.in_ok-push.ensures.items ∙ map-append path_data c.args.self.now.paths.items (c.args.path.now ∷ [])));
}
