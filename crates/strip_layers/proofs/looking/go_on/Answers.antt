use Rattle.std.proofs.Common.{◌≡◌, ◌+◌, ◌∙◌, ◌<◌, ℕ, fold, List, ap, arith, get_or, length, map, refl, subst, sym}
use Rattle.std.proofs.lemmas.List.{get_or-map, length-map}
use Rattle.strip_model.specs.declared.kind.Kind.{Kind}
use Rattle.strip_model.specs.Film.{FilmData}
use Rattle.strip_film.specs.declared.path.Path.{Path}
use Rattle.strip_film.specs.Film.{IsFilm}
use Rattle.strip_film.specs.Path.{IsPath, PathData}
use Rattle.strip_film.specs.Shown.{path_data}
use Rattle.strip_lines.specs.Lines.{rules_of}
use Rattle.strip_lines.specs.Parts.{no_task}
use Rattle.strip_paths.specs.Paths.{paths_after, with_path}
use Rattle.strip_paths.specs.Shown.{paths_of}
use Rattle.strip_layers.specs.Shown.{search_data}
use Rattle.strip_layers.specs.Search.{SearchData}
use Rattle.strip_layers.proofs.Going.{AreGone, gone_all, gone_more, gone_none}
use Rattle.strip_layers.proofs.Places.{path_at}
use Rattle.strip_layers.proofs.looking.go_on.Goals as goal

pub loop-number-init : goal.loop-number-init
loop-number-init g c = record {
  found = refl;
  gone = λ left limit most level looked. gone_none (rules_of g.A.Answers.kind g.A.Answers.film)
      (search_data c.args.search.now) left limit (paths_of c.args.paths) c.in_ok-standings.standings.items (paths_of c.new-next.result) c.requires.search
      c.in_ok-standings.ensures.items c.new-next.ensures;
}

-- a path of the layer, as it is seen at its place
shown : (items : List Path) (number : ℕ) (path : Path) → number < length items → path ≡ get_or items number path
    → path_at (map path_data items) number ≡ path_data path
shown items number path within is = get_or-map path_data items number path no_task within ∙ ap path_data (sym is)

pub look_at-requires : goal.look_at-requires
look_at-requires g c =
    let film : FilmData = g.A.Answers.film in
    let items : List Path = c.args.paths.paths.items in
    let path : Path = c.index-paths-number.result in
    let within : c.loop-number.number < length items = omega (arith, c.loop-number-test.true, c.requires.looked.2.0, length-map items path_data) in
    subst (IsPath film) (shown items c.loop-number.number path within (c.index-paths-number.is ∙ ap (λ (xs : List Path). get_or xs c.loop-number.number path) c.paths.ensures))
    (c.requires.level.1.is_open c.loop-number.number no_task (omega (arith, within, length-map items path_data))).0

pub loop-number-preserved : goal.loop-number-preserved
loop-number-preserved g c =
    let kind : Kind = g.A.Answers.kind in
    let film : FilmData = g.A.Answers.film in
    let items : List Path = c.args.paths.paths.items in
    let path : Path = c.index-paths-number.result in
    let number : ℕ = c.loop-number.number in
    let before : SearchData = search_data c.args.search.now in
    let now : SearchData = search_data c.loop-number.search in
    let after : SearchData = search_data c.look_at.new.search in
    let within : number < length items = omega (arith, c.loop-number-test.true, c.requires.looked.2.0, length-map items path_data) in
    let here : path_at (map path_data items) number ≡ path_data path
    = shown items number path within (c.index-paths-number.is ∙ ap (λ (xs : List Path). get_or xs number path) c.paths.ensures) in
    record {
      found = c.in_ok-standing.ensures.found ∙ c.loop-number.invariant.found;
      gone = λ left limit most level looked.
          subst (λ standings. AreGone (rules_of kind film) before after left limit (number + 1) (paths_of c.args.paths) standings (paths_of c.look_at.new.next))
          (sym c.in_ok-push.ensures.items)
          (gone_more kind film before now after left limit number (paths_of c.args.paths) c.args.asks.now c.loop-number.standings.items (paths_of c.loop-number.next)
          (subst IsFilm c.film.ensures c.keeps_limits.ensures) most level looked (c.loop-number.invariant.gone left limit most level looked)
          (omega (arith, within, length-map items path_data))
          _ _ refl (path_data path).rest (ap (λ (p : PathData). p.rest) (sym here)) c.in_ok-standing.standing
          c.in_ok-standing.ensures.stands (paths_of c.look_at.new.next) c.in_ok-standing.ensures.closed
          (λ some. c.in_ok-standing.ensures.leads some
          ∙ ap (λ (p : PathData). fold with_path (paths_of c.loop-number.next) (paths_after film p)) (sym here)));
    }

pub invariant_of-layer : goal.invariant_of-layer
invariant_of-layer g c =
    let so = c.loop-number.invariant.gone c.requires.level.0 c.requires.looked.0 c.requires.looked.1 c.requires.level.1 c.requires.looked.2 in
    record {
      same = omega (
        arith,
        so.count,
        c.loop-number-test.false,
        c.loop-number.auto.number-end,
        c.requires.looked.2.0,
        ap length c.into_sets.ensures,
        length-map (paths_of c.args.paths) (λ (p : PathData). p.rest),
        c.loop-number.standings.ok,
      );
    }

pub returns-clause-goes_on : goal.returns-clause-goes_on
returns-clause-goes_on g c = λ left limit most level looked.
    gone_all (rules_of g.A.Answers.kind g.A.Answers.film) (search_data c.args.search.now)
    (search_data c.loop-number.search) left limit c.loop-number.number (paths_of c.args.paths) c.into_sets.result.keys c.loop-number.standings.items
    (paths_of c.loop-number.next) (c.loop-number.invariant.gone left limit most level looked)
    (omega (arith, c.loop-number-test.false, c.loop-number.auto.number-end, looked.0)) c.into_sets.ensures
