use Rattle.std.proofs.Common.{◌≡◌, ◌∙◌, ◌<◌, List, [], ap, arith, fold, get_or, length, map, subst, sym, take}
use Rattle.std.proofs.lemmas.List.{get_or-map, length-map, take_all}
use Rattle.std.proofs.lemmas.List.Sums.{fold_more}
use Rattle.strip_model.specs.Film.{FilmData}
use Rattle.strip_film.specs.declared.path.Path.{Path}
use Rattle.strip_film.specs.Path.{IsPath, PathData}
use Rattle.strip_film.specs.Shown.{path_data}
use Rattle.strip_lines.specs.Parts.{no_task}
use Rattle.strip_paths.specs.Paths.{paths_after, with_path}
use Rattle.strip_paths.specs.Shown.{paths_of}
use Rattle.strip_paths.proofs.Lists.{fold_flat_map}
use Rattle.strip_front.proofs.layer.layer_after.Goals as goal
use Rattle.strip_front.proofs.layer.layer_after.Goals.{After-path-item}

-- the paths with those that go on from one more
abbrev step : FilmData → List PathData → PathData → List PathData
step film paths path = fold with_path paths (paths_after film path)

within : (c : goal.After-path-item) → c.loop-path.path-index < length (paths_of c.args.before.now)
within c = omega (arith, c.loop-path-test.true, ap length c.paths-path-items.ensures, length-map c.args.before.now.paths.items path_data)

-- the path of this turn
shown : (c : goal.After-path-item) → get_or (paths_of c.args.before.now) c.loop-path.path-index no_task ≡ path_data c.path-item.result
shown c =
    ap (λ (items : List Path). get_or (map path_data items) c.loop-path.path-index no_task) (sym c.paths-path-items.ensures)
    ∙ get_or-map path_data c.paths-path-items.result.now c.loop-path.path-index c.path-item.result no_task c.loop-path-test.true
    ∙ ap path_data (sym c.path-item.is)

pub put_paths_after-requires : goal.put_paths_after-requires
put_paths_after-requires c =
    let at = (goal.at.put_paths_after-requires c).After-path-item in record {
      path = subst (IsPath c.args.film.now) (shown at) (c.requires.paths c.loop-path.path-index no_task (within at));
    }

pub loop-path-preserved : goal.loop-path-preserved
loop-path-preserved c =
    let at = (goal.at.loop-path-preserved c).After-path-item in
    let all : List PathData = paths_of c.args.before.now in
    c.in_ok-put_paths_after.ensures
    ∙ ap (λ (paths : List PathData). step c.args.film.now paths (path_data c.path-item.result)) c.loop-path.invariant
    ∙ ap (step c.args.film.now (fold (step c.args.film.now) [] (take c.loop-path.path-index all))) (sym (shown at))
    ∙ sym (fold_more (step c.args.film.now) [] all c.loop-path.path-index no_task (within at))

pub returns : goal.returns
returns c =
    let all : List PathData = paths_of c.args.before.now in
    c.loop-path.invariant
    ∙ ap (fold (step c.args.film.now) []) (take_all c.loop-path.path-index all
    (omega (arith, c.loop-path-test.false, ap length c.paths-path-items.ensures, length-map c.args.before.now.paths.items path_data)))
    ∙ sym (fold_flat_map with_path (paths_after c.args.film.now) [] all)
