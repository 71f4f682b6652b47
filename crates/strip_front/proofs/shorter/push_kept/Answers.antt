use Rattle.std.proofs.lemmas.Bool.{true≢false}
use Rattle.std.proofs.Common.{◌≡◌, ◌∙◌, ◌<◌, ◌++◌, ◌∷◌, [], List, Contains, append-nil, map, true, sym, ap, subst, arith}
use Rattle.strip_mask.specs.Set.{has, size}
use Rattle.strip_mask.proofs.Sizes.{size-without}
use Rattle.strip_model.specs.Film.{FilmData}
use Rattle.strip_film.specs.Film.{IsFilm}
use Rattle.strip_film.specs.Path.{IsPath, PathData, extended}
use Rattle.strip_film.specs.Shown.{path_data, turns_data}
use Rattle.strip_film.proofs.Paths.{rest_lies}
use Rattle.strip_rule.specs.Rule.{open_firsts}
use Rattle.strip_rule.proofs.Firsts.{first_there}
use Rattle.strip_lines.specs.Lines.{rules_of}
use Rattle.strip_paths.specs.Shown.{paths_of}
use Rattle.strip_paths.proofs.Open.{first_ready, set_is}
use Rattle.strip_front.proofs.Onward.{AreWaiting, found_all, found_first, found_one, found_past, pushed_more, wait_first, wait_still}
use Rattle.strip_front.proofs.shorter.push_kept.Given.{Over}
use Rattle.strip_front.proofs.shorter.push_kept.Goals as goal
use Rattle.strip_front.proofs.shorter.push_kept.Goals.{After-has, In-Some}

pub turns_of-turns-requires : goal.turns_of-turns-requires
turns_of-turns-requires g c = record {
  lies = rw c.rest.ensures (rest_lies g.B.Bounds.film (path_data c.args.path.now) c.requires.path);
}

pub loop-scene-init : goal.loop-scene-init
loop-scene-init g c =
    let rules = rules_of g.B.Bounds.kind g.B.Bounds.film in
    let layer : List PathData = paths_of c.args.layer.now in
    record {
      wait = wait_first rules layer (path_data c.args.path.now) (turns_data c.turns_of-turns.result) c.rest.result.0 c.rest.ensures
          c.turns_of-turns.ensures.left c.turns_of-turns.ensures.by_rank;
      found = (
        [],
        sym (append-nil (map path_data c.args.paths.now.items)),
        found_first rules layer (path_data c.args.path.now) (turns_data c.turns_of-turns.result) c.rest.result.0 c.rest.ensures c.turns_of-turns.ensures.left,
      );
    }

pub extend-longer-requires-clause-ready : goal.extend-longer-requires-clause-ready
extend-longer-requires-clause-ready g c =
    first_ready c.film-film.result.now (path_data c.args.path.now).rest c.in-Some.scene
    (subst (λ (f : FilmData). has (open_firsts f (path_data c.args.path.now).rest) c.in-Some.scene ≡ true) (sym c.film-film.ensures)
    (c.loop-scene.invariant.wait.among c.in-Some.scene c.in-Some.ensures.0.waits))

-- one fewer waits
fewer : (g : Over) (c : goal.In-Some g) → size (turns_data c.take_next.new.self).left < size (turns_data c.loop-scene.turns).left
fewer g c =
    let film = g.B.Bounds.film in
    let path : PathData = path_data c.args.path.now in
    omega (
      arith,
      ap size c.in-Some.ensures.1,
      size-without (turns_data c.loop-scene.turns).left c.in-Some.scene
          (set_is film (subst IsFilm c.film-film.ensures c.keeps_limits.ensures) (turns_data c.loop-scene.turns).left
          (λ scene waits. rest_lies film path c.requires.path scene (first_there film path.rest scene (c.loop-scene.invariant.wait.among scene waits))))
          c.in-Some.ensures.0.waits,
    )

pub loop-scene-smaller-in-Continue-1 : goal.loop-scene-smaller-in-Continue-1
loop-scene-smaller-in-Continue-1 g c = fewer g (goal.at.loop-scene-smaller-in-Continue-1 g c).In-Some

pub loop-scene-smaller : goal.loop-scene-smaller
loop-scene-smaller g c = fewer g (goal.at.loop-scene-smaller g c).In-Some

still : (g : Over) (c : goal.In-Some g)
    → AreWaiting (rules_of g.B.Bounds.kind g.B.Bounds.film) (paths_of c.args.layer.now) (path_data c.args.path.now) (turns_data c.take_next.new.self)
still g c =
    wait_still (rules_of g.B.Bounds.kind g.B.Bounds.film) (paths_of c.args.layer.now) (path_data c.args.path.now) (turns_data c.loop-scene.turns)
    (turns_data c.take_next.new.self) c.in-Some.scene c.loop-scene.invariant.found.0 c.loop-scene.invariant.wait c.in-Some.ensures c.loop-scene.invariant.found.2

-- the path with this scene more
of_film : (g : Over) (c : goal.After-has g) → IsPath g.B.Bounds.film (path_data c.extend-longer.result)
of_film g c = subst (λ (f : FilmData). IsPath f (path_data c.extend-longer.result)) c.film-film.ensures c.extend-longer.ensures.path

along : (g : Over) (c : goal.After-has g)
    → path_data c.extend-longer.result ≡ extended g.B.Bounds.film (path_data c.args.path.now) c.in-Some.scene
along g c =
    c.extend-longer.ensures.extended
    ∙ ap (λ (f : FilmData). extended f (path_data c.args.path.now) c.in-Some.scene) c.film-film.ensures

pub loop-scene-preserved-in-Continue-1 : goal.loop-scene-preserved-in-Continue-1
loop-scene-preserved-in-Continue-1 g c =
    let rules = rules_of g.B.Bounds.kind g.B.Bounds.film in
    let layer : List PathData = paths_of c.args.layer.now in
    let path : PathData = path_data c.args.path.now in
    let found : List PathData = c.loop-scene.invariant.found.0 in
    let at = (goal.at.loop-scene-preserved-in-Continue-1 g c).After-has in
    let is = along g at in
    record {
      wait = still g (goal.at.loop-scene-preserved-in-Continue-1 g c).In-Some;
      found = (
        found ++ extended rules.film path c.in-Some.scene ∷ [],
        pushed_more path_data c.loop-scene.paths.items c.push.new.self.items c.extend-longer.result (map path_data c.args.paths.now.items) found
            (extended rules.film path c.in-Some.scene) c.in_ok-push.ensures.items c.loop-scene.invariant.found.1 is,
        found_one rules layer path (turns_data c.loop-scene.turns) (turns_data c.take_next.new.self) c.in-Some.scene found c.loop-scene.invariant.wait
            c.in-Some.ensures c.loop-scene.invariant.found.2 c.requires.path.left
            (subst (Contains layer) is ((c.has.ensures g.B.Bounds.film c.requires.layer c.requires.apart (of_film g at)).0 c.if-has.true)),
      );
    }

pub loop-scene-preserved : goal.loop-scene-preserved
loop-scene-preserved g c =
    let rules = rules_of g.B.Bounds.kind g.B.Bounds.film in
    let layer : List PathData = paths_of c.args.layer.now in
    let at = (goal.at.loop-scene-preserved g c).After-has in
    record {
      wait = still g (goal.at.loop-scene-preserved g c).In-Some;
      found = (
        c.loop-scene.invariant.found.0,
        c.loop-scene.invariant.found.1,
        found_past rules layer (path_data c.args.path.now) (turns_data c.loop-scene.turns) (turns_data c.take_next.new.self) c.in-Some.scene
            c.loop-scene.invariant.found.0 c.loop-scene.invariant.wait c.in-Some.ensures c.loop-scene.invariant.found.2
            (λ there. true≢false (sym ((c.has.ensures g.B.Bounds.film c.requires.layer c.requires.apart (of_film g at)).1
            (subst (Contains layer) (sym (along g at)) there)) ∙ c.if-has.false)),
      );
    }

pub returns : goal.returns
returns g c = (
  c.loop-scene.invariant.found.0,
  c.loop-scene.invariant.found.1,
  found_all (rules_of g.B.Bounds.kind g.B.Bounds.film) (paths_of c.args.layer.now) (path_data c.args.path.now) c.loop-scene.invariant.found.0
      (turns_data c.loop-scene.turns).left c.in_default.ensures c.loop-scene.invariant.found.2,
)
