use Rattle.std.proofs.Common.{◌≡◌, ◌∙◌, ◌∷◌, [], List, ap, arith, length, subst, sym}
use Rattle.strip_model.specs.Film.{FilmData}
use Rattle.strip_film.specs.Film.{IsFilm}
use Rattle.strip_film.specs.Path.{PathData}
use Rattle.strip_film.specs.Shown.{path_data}
use Rattle.strip_paths.specs.Paths.{with_path}
use Rattle.strip_paths.specs.Shown.{paths_of}
use Rattle.strip_lines.specs.Lines.{rules_of}
use Rattle.strip_layers.specs.Search.{AreTrue}
use Rattle.strip_layers.specs.Shown.{search_data}
use Rattle.strip_layers.proofs.Behind.{undone_whole, walked_whole, whole_level, whole_path}
use Rattle.strip_layers.proofs.walking.walk_whole.Goals as goal

-- the one path that a walk begins with
paths_are : (film other : FilmData) (none paths : List PathData) (start : PathData) → none ≡ [] → other ≡ film → start ≡ whole_path other → paths ≡ with_path none start
    → paths ≡ whole_path film ∷ []
paths_are film other none paths start is_none same start_is is =
    is ∙ ap (λ (ps : List PathData). with_path ps start) is_none ∙ ap (λ (p : PathData). p ∷ []) (start_is ∙ ap whole_path same)

pub walk_layer-requires-clause-level : goal.walk_layer-requires-clause-level
walk_layer-requires-clause-level g c =
    let film : FilmData = g.A.Answers.film in
    whole_level g.A.Answers.kind film c.scenes.result (paths_of c.put.new.self) (subst IsFilm c.film-film.ensures c.keeps_limits.ensures)
    (c.scenes.ensures ∙ ap (λ (f : FilmData). length f.casts) c.film-film.ensures)
    (paths_are film c.film-film.result.now (paths_of c.new-whole.result) (paths_of c.put.new.self) (path_data c.start.result) c.new-whole.ensures c.film-film.ensures
    c.start.ensures.start c.in_ok-put.ensures)

pub returns-then-is_none-clause-found : goal.returns-then-is_none-clause-found
returns-then-is_none-clause-found g c =
    subst (AreTrue g.A.Answers.kind g.A.Answers.film) (sym c.take_back.ensures.found) c.in_ok-layer.ensures.found

pub returns-then-is_none-clause-walked : goal.returns-then-is_none-clause-walked
returns-then-is_none-clause-walked g c =
    undone_whole (rules_of g.A.Answers.kind g.A.Answers.film) (search_data c.args.search.now)
    (search_data c.walk_layer.new.search) (search_data c.take_back.new.self) c.args.walk.may_spend c.args.walk.limit c.len-count.result (paths_of c.put.new.self)
    c.in_ok-layer.layer c.if-is_none.ensures c.requires.unspent (omega (arith, c.len-count.ensures, c.args.search.now.sheet.lines.ok)) c.take_back.ensures.search c.in_ok-layer.ensures.walked

pub returns-clause-walked : goal.returns-clause-walked
returns-clause-walked g c =
    let film : FilmData = g.A.Answers.film in
    walked_whole g.A.Answers.kind film (search_data c.args.search.now) (search_data c.walk_layer.new.search) c.args.walk.may_spend
    c.args.walk.limit (paths_of c.put.new.self) c.in_ok-layer.layer
    (paths_are film c.film-film.result.now (paths_of c.new-whole.result) (paths_of c.put.new.self) (path_data c.start.result) c.new-whole.ensures c.film-film.ensures
    c.start.ensures.start c.in_ok-put.ensures) c.if-is_none.ensures c.in_ok-layer.ensures.walked
