use Rattle.std.proofs.Common.{◌-◌, ◌≤◌, ℕ, suc, List, Option, Some, ap, arith, get_or, subst, sym}
use Rattle.std.proofs.lemmas.Bool.{not-true}
use Rattle.strip_model.specs.declared.kind.Kind.{Kind}
use Rattle.strip_model.specs.Film.{FilmData}
use Rattle.strip_film.specs.Film.{IsFilm}
use Rattle.strip_film.specs.Rules.{Rules}
use Rattle.strip_film.proofs.Paths.{path_limit, rest_lies}
use Rattle.strip_lines.specs.Lines.{rules_of}
use Rattle.strip_paths.specs.Shown.{paths_of}
use Rattle.strip_layers.specs.declared.ask.Ask.{Ask}
use Rattle.strip_layers.specs.declared.layer.Layer.{Layer}
use Rattle.strip_layers.specs.Raised.{MayRaiseLayer}
use Rattle.strip_layers.specs.Search.{AreTrue, SearchData}
use Rattle.strip_layers.specs.Shown.{search_data}
use Rattle.strip_layers.specs.Walked.{AreLooked, GoesOn, IsLevel, WalksLayer}
use Rattle.strip_layers.proofs.Behind.{all_complete, given_up, may_raise}
use Rattle.strip_layers.proofs.Grown.{extends_rises, rises_trans}
use Rattle.strip_layers.proofs.walking.+walk_layer.Goals as goal
use Rattle.strip_layers.proofs.walking.+walk_layer.Goals.{After-deref, In-Some, In_ok-layer}
use Rattle.strip_layers.proofs.walking.+walk_layer.Given.{Over}

pub returns-then-left-eq0-clause-walked : goal.returns-then-left-eq0-clause-walked
returns-then-left-eq0-clause-walked g t c =
    let kind : Kind = g.A.Answers.kind in
    let film : FilmData = g.A.Answers.film in
    c.meet_all.ensures.met (rules_of kind film) c.args.walk.limit c.requires.search
    (all_complete kind film c.args.left (paths_of c.args.paths) (subst IsFilm c.film.ensures c.keeps_limits.ensures) c.if-left-eq0.true c.requires.level)

pub ask_all-requires-clause-lie : goal.ask_all-requires-clause-lie
ask_all-requires-clause-lie g t c = λ place d within.
    rest_lies g.A.Answers.film (get_or (paths_of c.args.paths) place d) (c.requires.level.is_open place d within).0

-- the layer leaves some scenes
level_of : (g : Over) (t : ℕ) (c : goal.After-deref g t)
    → IsLevel (rules_of g.A.Answers.kind g.A.Answers.film) (suc (c.args.left - 1)) (paths_of c.args.paths)
level_of g t c = subst (λ (n : ℕ). IsLevel (rules_of g.A.Answers.kind g.A.Answers.film) n (paths_of c.args.paths))
    (omega (arith, c.if-left-eq0.false)) c.requires.level

looked_of : (g : Over) (t : ℕ) (c : goal.After-deref g t)
    → AreLooked g.A.Answers.kind g.A.Answers.film (search_data c.ask_all.new.search).lines c.args.walk.limit
    (paths_of c.args.paths) c.deref.result.now
looked_of g t c =
    let kind : Kind = g.A.Answers.kind in
    let film : FilmData = g.A.Answers.film in
    subst (λ (asks : List Ask). AreLooked kind film (search_data c.ask_all.new.search).lines c.args.walk.limit (paths_of c.args.paths) asks) (sym c.deref.ensures.value)
    (subst (λ (s : SearchData). AreLooked kind film s.lines c.args.walk.limit (paths_of c.args.paths) c.in_ok-asks.asks.items) (sym c.in_ok-asks.ensures.search)
    c.in_ok-asks.ensures.looked)

limit_of : (g : Over) (t : ℕ) (c : goal.After-deref g t) → c.args.walk.limit ≤ (search_data c.ask_all.new.search).goal
limit_of g t c = omega (arith, c.requires.limit, ap (λ (s : SearchData). s.goal) c.in_ok-asks.ensures.search)

pub go_on-requires-clause-level : goal.go_on-requires-clause-level
go_on-requires-clause-level g t c = (c.args.left - 1, level_of g t (goal.at.go_on-requires-clause-level g t c).After-deref)

pub go_on-requires-clause-looked : goal.go_on-requires-clause-looked
go_on-requires-clause-looked g t c =
    let at = (goal.at.go_on-requires-clause-looked g t c).After-deref in
    (c.args.walk.limit, limit_of g t at, looked_of g t at)

-- how the layer goes on
gone_of : (g : Over) (t : ℕ) (c : goal.In_ok-layer g t)
    → GoesOn (rules_of g.A.Answers.kind g.A.Answers.film) (search_data c.args.search.now) (c.args.left - 1)
    c.args.walk.limit (paths_of c.args.paths) c.in_ok-layer.layer.sets.keys c.in_ok-layer.layer.standings.items (paths_of c.in_ok-layer.next)
    (search_data c.go_on.new.search)
gone_of g t c =
    let at = (goal.at.In_ok-layer g t c).After-deref in
    subst (λ (s : SearchData). GoesOn (rules_of g.A.Answers.kind g.A.Answers.film) s (c.args.left - 1)
    c.args.walk.limit (paths_of c.args.paths) c.in_ok-layer.layer.sets.keys c.in_ok-layer.layer.standings.items (paths_of c.in_ok-layer.next)
    (search_data c.go_on.new.search)) c.in_ok-asks.ensures.search
    (c.in_ok-layer.ensures.goes_on (c.args.left - 1) c.args.walk.limit (limit_of g t at) (level_of g t at) (looked_of g t at))

pub returns-then-not-walk-clause-walked : goal.returns-then-not-walk-clause-walked
returns-then-not-walk-clause-walked g t c = (not-true c.args.walk.may_spend c.if-not-walk.true, (gone_of g t (goal.at.returns-then-not-walk-clause-walked g t c).In_ok-layer).extends)

pub returns-then-not-walk-clause-found : goal.returns-then-not-walk-clause-found
returns-then-not-walk-clause-found g t c =
    subst (AreTrue g.A.Answers.kind g.A.Answers.film) (sym c.in_ok-layer.ensures.found) c.in_ok-asks.ensures.found

pub walk_layer-requires : goal.walk_layer-requires
walk_layer-requires g t c κs within =
    let kind : Kind = g.A.Answers.kind in
    let film : FilmData = g.A.Answers.film in
    let gone = gone_of g t (goal.at.walk_layer-requires g t c).In_ok-layer in (
      omega (arith, c.if-left-eq0.false, c.decreases),
      (
        within,
        (
          c.requires.ready,
          (
            subst (AreTrue kind film) (sym c.in_ok-layer.ensures.found) c.in_ok-asks.ensures.found,
            (gone.search, (gone.level, omega (arith, c.requires.limit, gone.extends.goal))),
          ),
        ),
      ),
    )

-- what the walk of the layers below leaves, where it isn't given up
module _ (g : Over) (t : ℕ) (c : goal.In-Some g t) where
  abbrev kind : Kind
  kind = g.A.Answers.kind

  abbrev film : FilmData
  film = g.A.Answers.film

  walked : WalksLayer (rules_of kind film) (search_data c.go_on.new.search) c.args.walk.may_spend c.args.walk.limit (paths_of c.in_ok-layer.next) (Some c.in-Some.below)
      (search_data c.walk_layer.new.search)
  walked = subst (λ (layer : Option Layer). WalksLayer (rules_of kind film) (search_data c.go_on.new.search) c.args.walk.may_spend c.args.walk.limit
      (paths_of c.in_ok-layer.next) layer (search_data c.walk_layer.new.search)) c.in-Some.is c.in_ok-walk_layer.ensures.walked

  gone : GoesOn (rules_of kind film) (search_data c.args.search.now) (c.args.left - 1) c.args.walk.limit (paths_of c.args.paths)
      c.in_ok-layer.layer.sets.keys c.in_ok-layer.layer.standings.items (paths_of c.in_ok-layer.next) (search_data c.go_on.new.search)
  gone = gone_of g t (goal.at.In-Some g t c).In_ok-layer

  may : MayRaiseLayer (rules_of kind film) (search_data c.walk_layer.new.search) c.args.walk.limit (paths_of c.args.paths) c.in_ok-layer.layer.sets.keys
      c.in_ok-layer.layer.standings.items c.in-Some.below.sets.keys c.in-Some.below.standings.items
  may = may_raise (rules_of kind film) (search_data c.args.search.now) (search_data c.go_on.new.search) (search_data c.walk_layer.new.search) (c.args.left - 1)
      c.args.walk.limit (paths_of c.args.paths) c.in_ok-layer.layer.sets.keys c.in_ok-layer.layer.standings.items (paths_of c.in_ok-layer.next)
      c.in-Some.below.sets.keys c.in-Some.below.standings.items (level_of g t (goal.at.In-Some g t c).After-deref)
      (omega (arith, path_limit film (search_data c.walk_layer.new.search).best walked.0.best.0 (subst IsFilm c.film.ensures c.keeps_limits.ensures)))
      gone walked.0 walked.1 walked.2

pub returns-in-None-clause-walked : goal.returns-in-None-clause-walked
returns-in-None-clause-walked g t c =
    let rules : Rules = rules_of g.A.Answers.kind g.A.Answers.film in
    given_up rules (search_data c.args.search.now) (search_data c.go_on.new.search) (search_data c.walk_layer.new.search) c.args.walk.may_spend c.args.walk.limit
    (paths_of c.args.paths) (paths_of c.in_ok-layer.next) (gone_of g t (goal.at.returns-in-None-clause-walked g t c).In_ok-layer).extends
    (subst (λ (layer : Option Layer). WalksLayer rules (search_data c.go_on.new.search) c.args.walk.may_spend c.args.walk.limit (paths_of c.in_ok-layer.next) layer
    (search_data c.walk_layer.new.search)) c.in-None.is c.in_ok-walk_layer.ensures.walked)

pub raise_layer-requires : goal.raise_layer-requires
raise_layer-requires g t c = (c.args.walk.limit, paths_of c.args.paths, may g t (goal.at.raise_layer-requires g t c).In-Some)

pub returns-clause-found : goal.returns-clause-found
returns-clause-found g t c =
    subst (AreTrue g.A.Answers.kind g.A.Answers.film) (sym c.raise_layer.ensures.found)
    c.in_ok-walk_layer.ensures.found

pub returns-clause-walked : goal.returns-clause-walked
returns-clause-walked g t c =
    let at = (goal.at.returns-clause-walked g t c).In-Some in
    let raised = c.raise_layer.ensures.raised c.args.walk.limit (paths_of c.args.paths) (may g t at) in
    let before : SearchData = search_data c.args.search.now in
    let now : SearchData = search_data c.go_on.new.search in
    let then : SearchData = search_data c.walk_layer.new.search in
    let after : SearchData = search_data c.raise_layer.new.search in (
      raised.0,
      rises_trans before now after (extends_rises before now (gone g t at).extends) (rises_trans now then after (walked g t at).1 raised.1),
      raised.2,
    )
