use Rattle.std.proofs.Common.{◌≡◌, ◌∙◌, ◌∷◌, false, ℕ, [], ap, subst, sym}
use Rattle.strip_model.specs.declared.kind.Kind.{Kind}
use Rattle.strip_model.specs.Film.{FilmData}
use Rattle.strip_film.specs.Film.{IsFilm, all_scenes}
use Rattle.strip_film.specs.Path.{PathData}
use Rattle.strip_film.specs.Shown.{path_data}
use Rattle.strip_lines.specs.Lines.{rules_of, with_raised}
use Rattle.strip_layers.specs.Begun.{HasBegun}
use Rattle.strip_layers.specs.Search.{Adds, SearchData}
use Rattle.strip_layers.specs.Shown.{search_data}
use Rattle.strip_layers.proofs.Opening.{added, has_begun}
use Rattle.strip_layers.proofs.beginning.begin.Goals as goal

pub returns-clause-begun : goal.returns-clause-begun
returns-clause-begun g c =
    let kind : Kind = g.A.Answers.kind in
    let film : FilmData = g.A.Answers.film in
    let start : PathData = path_data c.args.start.now in
    let all_is : c.all.result.0 ≡ all_scenes film = c.all.ensures ∙ ap all_scenes c.film-film.ensures in
    let first : SearchData = record { lines = []; best = start; goal = start.paid; nodes = c.args.nodes; spent = false } in
    let second : search_data c.add.new.self ≡ record first { lines = record { set = all_scenes film; bound = c.args.static_bound } ∷ [] }
    = added kind film start c.args.nodes c.args.static_bound c.look_ahead.result (subst IsFilm c.film-film.ensures c.keeps_limits.ensures) c.requires.start c.requires.some c.requires.bound c.requires.below
    c.in_ok-add.field-0
    (search_data c.add.new.self)
    (subst (λ (s : SearchData). Adds s (record { set = all_scenes film; bound = c.args.static_bound }) c.in_ok-add.field-0 (search_data c.add.new.self)) c.new-search.ensures.search
    (subst (λ (q : ℕ). Adds (search_data c.new-search.result) (record { set = q; bound = c.args.static_bound }) c.in_ok-add.field-0 (search_data c.add.new.self)) all_is
    c.in_ok-add.ensures.added)) in
    subst (HasBegun (rules_of kind film) start c.args.nodes)
    (sym (c.raise.ensures.lines ∙ ap (λ (s : SearchData). record s { lines = with_raised s.lines 0 c.look_ahead.result }) second))
    (has_begun kind film start c.args.nodes c.args.static_bound c.look_ahead.result (subst IsFilm c.film-film.ensures c.keeps_limits.ensures) c.requires.start c.requires.some
    c.requires.bound c.requires.below c.look_ahead.ensures)
