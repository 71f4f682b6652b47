use Rattle.std.proofs.Common.{◌≡◌, ◌∙◌, ◌-◌, ℕ, suc, false, None, List, length, map, min, replicate, rules, refl, sym, ap, subst, arith}
use Rattle.std.proofs.lemmas.Result.{IfOk-weaker}
use Rattle.strip_film.specs.Film.{IsFilm}
use Rattle.strip_film.specs.Path.{PathData}
use Rattle.strip_film.specs.Shown.{path_data}
use Rattle.strip_lines.specs.Lines.{rules_of}
use Rattle.strip_paths.specs.Shown.{paths_of}
use Rattle.strip_front.specs.Front.{AreShorter, FrontData, IsDepth, IsEmptyFront}
use Rattle.strip_front.specs.Layers.{AreTasksOf}
use Rattle.strip_front.specs.Shown.{front_data}
use Rattle.strip_front.proofs.Emptied.{empty_front, is_depth}
use Rattle.strip_front.proofs.Layered.{layer_facts}
use Rattle.strip_front.proofs.ShorterPaths.{shorter_apart}
use Rattle.strip_front.proofs.opening.make_front.Given.{Over}
use Rattle.strip_front.proofs.opening.make_front.Goals as goal
use Rattle.strip_front.proofs.opening.make_front.Goals.{After-min-depth}

own_film : (g : Over) (c : goal.After-min-depth g) → IsFilm g.B.Bounds.film
own_film g c = subst IsFilm c.film-film.ensures c.keeps_limits.ensures

depth_is : (g : Over) (c : goal.After-min-depth g) → c.min-depth.result ≡ min c.args.most (length g.B.Bounds.film.casts)
depth_is g c = search rules

fits : (g : Over) (c : goal.After-min-depth g) → IsDepth g.B.Bounds.film c.min-depth.result
fits g c = is_depth g.B.Bounds.film c.args.most c.min-depth.result (own_film g c) c.requires.some c.requires.few (depth_is g c)

pub tasks_behind-requires : goal.tasks_behind-requires
tasks_behind-requires g c = record {
  layer =
      let before : ℕ = c.min-depth.result - 1 in
      let own = fits g (goal.at.tasks_behind-requires g c).After-min-depth in
      (before, c.in_ok-shorter.ensures.last before (omega (arith, own.some)));
}

pub of-requires : goal.of-requires
of-requires g c =
    let film = g.B.Bounds.film in
    let is = own_film g (goal.at.of-requires g c).After-min-depth in
    record {
      apart = shorter_apart g.B.Bounds.kind film c.min-depth.result (layer_facts g.B.Bounds.kind film is)
          (map path_data c.in_ok-shorter.shorter.items) c.in_ok-shorter.ensures.shorter is;
    }

pub returns-clause-empty : goal.returns-clause-empty
returns-clause-empty g c =
    let film = g.B.Bounds.film in
    let kind = g.B.Bounds.kind in
    let before : ℕ = c.min-depth.result - 1 in
    let own = fits g (goal.at.returns-clause-empty g c).After-min-depth in
    let tasks : List PathData = paths_of c.in_ok-tasks.tasks in
    let paths : List PathData = paths_of c.in_ok-paths.paths in
    let depth : suc before ≡ c.min-depth.result = omega (arith, own.some) in
    let are : AreTasksOf (rules_of kind film) c.min-depth.result tasks
    = subst (λ (n : ℕ). AreTasksOf (rules_of kind film) n tasks) depth
    (c.in_ok-tasks.ensures before (c.in_ok-shorter.ensures.last before (omega (arith, own.some)))) in
    let shorter : AreShorter (rules_of kind film) c.min-depth.result paths
    = subst (AreShorter (rules_of kind film) c.min-depth.result) (sym (ap (λ list. map path_data list.items) c.in_ok-paths.ensures)) c.in_ok-shorter.ensures.shorter in
    IfOk-weaker c.unfilled.result _ (λ front. IsEmptyFront (rules_of kind film) (front_data front))
    (λ front same. subst (IsEmptyFront (rules_of kind film)) (sym same)
    (empty_front kind film c.min-depth.result tasks (replicate (length tasks) false) paths (replicate (length paths) None) own are shorter refl refl))
    c.unfilled.ensures

pub returns-clause-depth : goal.returns-clause-depth
returns-clause-depth g c =
    IfOk-weaker c.unfilled.result _ (λ front. front.depth ≡ min c.args.most (length g.B.Bounds.film.casts))
    (λ front same. ap (λ (f : FrontData). f.depth) same ∙ depth_is g (goal.at.returns-clause-depth g c).After-min-depth) c.unfilled.ensures
