use Rattle.std.proofs.Common.{arith, ◌≡◌, ◌∙◌, ◌++◌, List, All, drop, length, map, subst, sym, take}
use Rattle.strip_model.specs.declared.kind.Kind.{Kind}
use Rattle.strip_model.specs.Film.{FilmData}
use Rattle.strip_film.specs.declared.path.Path.{Path}
use Rattle.strip_film.specs.Film.{LiesIn}
use Rattle.strip_film.specs.Path.{PathData}
use Rattle.strip_film.specs.Shown.{path_data}
use Rattle.strip_paths.specs.Shown.{paths_of}
use Rattle.strip_layers.specs.declared.ask.Ask.{Ask}
use Rattle.strip_layers.specs.Asks.{AreAnswered}
use Rattle.strip_layers.specs.Search.{AskedIsTrue}
use Rattle.strip_layers.specs.Walked.{AreAsksFor, AreLooked}
use Rattle.strip_layers.proofs.Asked.{asks_lie, looked_all, true_all, written}
use Rattle.strip_layers.proofs.looking.ask_all.Goals as goal
use Rattle.strip_layers.proofs.looking.ask_all.Goals.{After-answer, After-deref_mut}
use Rattle.strip_layers.proofs.looking.ask_all.Given.{Over}

asked : (g : Over) (c : goal.After-deref_mut g)
    → AreAsksFor g.A.Answers.kind g.A.Answers.film c.args.search.now.sheet.lines.items c.args.limit
    (paths_of c.args.paths.now) c.in_ok-asks.asks.items
asked g c = subst (λ (items : List Path). AreAsksFor g.A.Answers.kind g.A.Answers.film
    c.args.search.now.sheet.lines.items c.args.limit (map path_data items) c.in_ok-asks.asks.items) c.paths.ensures
    (c.in_ok-asks.ensures g.A.Answers.kind g.A.Answers.film c.requires.found)

pub answer-requires-clause-lies : goal.answer-requires-clause-lies
answer-requires-clause-lies g c =
    let film : FilmData = g.A.Answers.film in
    let at = (goal.at.answer-requires-clause-lies g c).After-deref_mut in
    subst (All (λ (ask : Ask). LiesIn film ask.set)) (sym c.deref_mut.ensures.value)
    (asks_lie g.A.Answers.kind film c.args.search.now.sheet.lines.items c.args.limit (paths_of c.args.paths.now) c.in_ok-asks.asks.items
    c.in_ok-asks.asks.items (asked g at) c.requires.lie)

-- what the list has once it is answered
items_are : (g : Over) (c : goal.After-answer g) → length c.answer.new.asks ≡ length c.in_ok-asks.asks.items
    → take c.in_ok-asks.asks.len (c.answer.new.asks ++ drop (length c.answer.new.asks) c.in_ok-asks.asks.items) ≡ c.answer.new.asks
items_are g c count = written c.in_ok-asks.asks.len c.in_ok-asks.asks.items c.answer.new.asks (omega (arith, c.in_ok-asks.asks.ok)) count

pub returns-clause-found : goal.returns-clause-found
returns-clause-found g c =
    let kind : Kind = g.A.Answers.kind in
    let film : FilmData = g.A.Answers.film in
    let are : AreAnswered kind film c.in_ok-asks.asks.items c.answer.new.asks
    = subst (λ (xs : List Ask). AreAnswered kind film xs c.answer.new.asks) c.deref_mut.ensures.value c.in_ok-answer.ensures in
    let at = (goal.at.returns-clause-found g c).After-answer in
    c.remember.ensures.found kind film c.requires.found
    (subst (All (AskedIsTrue kind film)) (sym (c.deref.ensures.value ∙ items_are g at are.count))
    (true_all kind film c.args.search.now.sheet.lines.items c.args.limit (paths_of c.args.paths.now) c.in_ok-asks.asks.items c.answer.new.asks
    (asked g (goal.at.returns-clause-found g c).After-deref_mut) are))

pub returns-clause-looked : goal.returns-clause-looked
returns-clause-looked g c =
    let kind : Kind = g.A.Answers.kind in
    let film : FilmData = g.A.Answers.film in
    let lines = c.args.search.now.sheet.lines.items in
    let paths : List PathData = paths_of c.args.paths.now in
    let are : AreAnswered kind film c.in_ok-asks.asks.items c.answer.new.asks
    = subst (λ (xs : List Ask). AreAnswered kind film xs c.answer.new.asks) c.deref_mut.ensures.value c.in_ok-answer.ensures in
    subst (AreLooked kind film lines c.args.limit paths) (sym (items_are g (goal.at.returns-clause-looked g c).After-answer are.count))
    (looked_all kind film lines c.args.limit paths c.in_ok-asks.asks.items c.answer.new.asks (asked g (goal.at.returns-clause-looked g c).After-deref_mut) are)
