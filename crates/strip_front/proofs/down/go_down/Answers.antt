use Rattle.std.proofs.Common.{◌≡◌, ◌∙◌, ◌↔◌, IsSome, subst, length, sym, ap}
use Rattle.strip_model.specs.Film.{FilmData}
use Rattle.strip_film.specs.Shown.{cursor_data}
use Rattle.strip_lines.specs.Lines.{rules_of}
use Rattle.strip_hand.specs.Hand.{HandData}
use Rattle.strip_hand.specs.Search.{search_rules}
use Rattle.strip_front.specs.Filled.{IsWanted}
use Rattle.strip_front.specs.Front.{FrontData, IsFrontOf, root_of}
use Rattle.strip_front.specs.Shown.{front_data}
use Rattle.strip_front.proofs.Asked.{front_marked}
use Rattle.strip_front.proofs.Filled.{filled, root_own, whole_still}
use Rattle.strip_front.proofs.down.go_down.Given.{Over}
use Rattle.strip_front.proofs.down.go_down.Goals as goal
use Rattle.strip_front.proofs.down.go_down.Goals.{After-enlist_paths, After-film}

-- the front with its lines is one of the search
lined : (g : Over) (c : goal.After-enlist_paths g) → IsFrontOf (search_rules (g.H.Hand.shows c.args.hand.now).search) (front_data c.enlist_paths.new.front)
lined g c = subst (IsFrontOf (search_rules (g.H.Hand.shows c.args.hand.now).search)) (sym c.enlist_paths.ensures.lines.only) (record {
  depth = c.requires.may.unfilled.empty.front_of.depth;
  tasks = c.requires.may.unfilled.empty.front_of.tasks;
  wanted = c.requires.may.unfilled.empty.front_of.wanted;
  paths = c.requires.may.unfilled.empty.front_of.paths;
  lines = c.enlist_paths.ensures.lines.count ∙ c.requires.may.unfilled.empty.front_of.lines;
})

pub mark_wanted-requires : goal.mark_wanted-requires
mark_wanted-requires g c =
    let search = (g.H.Hand.shows c.args.hand.now).search in (
      search.kind,
      subst (λ (f : FilmData). IsFrontOf (rules_of search.kind f) (front_data c.enlist_paths.new.front)) (c.requires.search.0 ∙ sym c.film.ensures)
          (lined g (goal.at.After-film g (goal.at.mark_wanted-requires g c).After-film).After-enlist_paths),
    )

pub returns-in_err-spent-clause-front : goal.returns-in_err-spent-clause-front
returns-in_err-spent-clause-front g c = record {
  front_of = lined g (goal.at.returns-in_err-spent-clause-front g c).After-enlist_paths;
  tasks = ap (λ (f : FrontData). f.tasks) c.enlist_paths.ensures.lines.only;
}

pub returns-clause-front : goal.returns-clause-front
returns-clause-front g c = record {
  front_of = front_marked (search_rules (g.H.Hand.shows c.args.hand.now).search) (front_data c.enlist_paths.new.front) (front_data c.mark_wanted.new.front)
      (IsWanted c.film.result.now (front_data c.enlist_paths.new.front)) c.mark_wanted.ensures
      (lined g (goal.at.returns-clause-front g c).After-enlist_paths);
  tasks = ap (λ (f : FrontData). f.tasks) c.mark_wanted.ensures.only ∙ ap (λ (f : FrontData). f.tasks) c.enlist_paths.ensures.lines.only;
}

-- the film is that of the hand's search
film_is : (g : Over) (c : goal.After-film g) → (g.H.Hand.shows c.enlist_paths.new.hand).search.film ≡ c.film.result.now
film_is g c = ap (λ (h : HandData). h.search.film) c.enlist_paths.ensures.down.only ∙ c.requires.search.0 ∙ sym c.film.ensures

pub returns-clause-down : goal.returns-clause-down
returns-clause-down g c =
    let hand = g.H.Hand.shows c.enlist_paths.new.hand in
    let cursor = cursor_data c.enlist_paths.new.cursor in
    let mid = front_data c.enlist_paths.new.front in
    let front = front_data c.mark_wanted.new.front in
    let enlisted = c.in_ok-spent.ensures.enlisted in
    let same = film_is g (goal.at.returns-clause-down g c).After-film in
    let root : IsSome (root_of front) ↔ IsSome cursor.last
    = subst (λ (f : FrontData). IsSome (root_of f) ↔ IsSome cursor.last) (sym c.mark_wanted.ensures.only) enlisted.root in
    record {
      root = root;
      filled = filled hand c.film.result.now same mid front c.mark_wanted.ensures (length (front_data c.args.front.now).tasks)
          (ap (λ (f : FrontData). f.wanted) c.enlist_paths.ensures.lines.only ∙ c.requires.may.unfilled.empty.wanted) enlisted.lines;
      whole = λ none. whole_still hand c.film.result.now same mid front c.mark_wanted.ensures hand.told (enlisted.whole none);
      spent = enlisted.cut;
      own = λ spent some few. root_own hand cursor front c.keeps_limits.ensures c.enlist_paths.ensures.down.stands c.enlist_paths.ensures.down.task root (enlisted.cut spent) some few;
    }
