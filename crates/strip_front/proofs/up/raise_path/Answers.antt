use Rattle.std.proofs.Common.{◌≡◌, ◌∙◌, None, ℕ, suc, length, sym, ap, subst, arith}
use Rattle.std.proofs.lemmas.List.{get_or_default, length-map}
use Rattle.strip_model.specs.declared.kind.Kind.{Kind}
use Rattle.strip_model.specs.Film.{FilmData}
use Rattle.strip_film.specs.Film.{LiesIn}
use Rattle.strip_film.specs.Path.{PathData}
use Rattle.strip_film.specs.Shown.{path_data}
use Rattle.strip_bound.specs.Bounds.{bound}
use Rattle.strip_front.specs.Front.{line_of, path_at}
use Rattle.strip_front.specs.Raised.{AreRaised}
use Rattle.strip_front.specs.Shown.{front_data}
use Rattle.strip_front.proofs.FrontFacts.{FrontFacts, front_facts}
use Rattle.strip_front.proofs.Raised.{AllFor, LeastFor, MostFor, all_for, may_raise, reached_raised, reached_static, rest_in}
use Rattle.strip_front.proofs.Tried.{path_read}
use Rattle.strip_front.proofs.up.raise_path.Given.{Over}
use Rattle.strip_front.proofs.up.raise_path.Goals as goal
use Rattle.strip_front.proofs.up.raise_path.Goals.{After-index, After-least_over, In-Some}

facts : (g : Over) (c : goal.After-index g)
    → FrontFacts (g.H.Hand.shows c.args.hand.now).search.kind (g.H.Hand.shows c.args.hand.now).search.film (front_data c.args.front.now)
facts g c =
    front_facts (g.H.Hand.shows c.args.hand.now).search.kind (g.H.Hand.shows c.args.hand.now).search.film (front_data c.args.front.now) c.keeps_limits-2.ensures.film c.requires.raised.walked.front_of

rest_is : (g : Over) (c : goal.After-index g) → c.rest-rest.result.0 ≡ (path_at (front_data c.args.front.now) c.args.place).rest
rest_is g c =
    c.rest-rest.ensures
    ∙ ap (λ (p : PathData). p.rest) (path_read c.paths.result.now c.args.front.now.paths.paths.items c.args.place c.index-paths-place.result c.paths.ensures
    (omega (arith, c.requires.place, length-map c.args.front.now.paths.paths.items path_data)) c.index-paths-place.is)

deeper : (g : Over) (c : goal.After-index g)
    → AreRaised (g.H.Hand.shows c.args.hand.now) (front_data c.args.front.now) c.args.found.now c.args.front.now.numbers.items
    (suc (length (path_at (front_data c.args.front.now) c.args.place).scenes))
deeper g c = λ other there long. c.requires.raised.raised other there (omega (arith, long))

own_lies : (g : Over) (c : goal.After-index g) → LiesIn (g.H.Hand.shows c.args.hand.now).search.film c.rest-rest.result.0
own_lies g c =
    subst (LiesIn (g.H.Hand.shows c.args.hand.now).search.film) (sym (rest_is g c))
    (rest_in (g.H.Hand.shows c.args.hand.now) c.keeps_limits-2.ensures (front_data c.args.front.now) c.requires.raised.walked.front_of (facts g c) c.requires.raised.walked.filled c.args.found.now
    c.requires.raised.walked.known_of c.args.front.now.numbers.items c.args.place c.requires.place (deeper g c))

static_is : (g : Over) (c : goal.After-index g) (x : ℕ) → x ≡ bound g.B.Bounds.kind g.B.Bounds.film c.rest-rest.result.0
    → x ≡ bound (g.H.Hand.shows c.args.hand.now).search.kind (g.H.Hand.shows c.args.hand.now).search.film (path_at (front_data c.args.front.now) c.args.place).rest
static_is g c x is =
    is ∙ ap (λ (k : Kind). bound k g.B.Bounds.film c.rest-rest.result.0) (sym c.requires.search.1)
    ∙ ap (λ (f : FilmData). bound (g.H.Hand.shows c.args.hand.now).search.kind f c.rest-rest.result.0) (sym c.requires.search.0)
    ∙ ap (bound (g.H.Hand.shows c.args.hand.now).search.kind (g.H.Hand.shows c.args.hand.now).search.film) (rest_is g c)

pub whole-requires : goal.whole-requires
whole-requires g c = record {
  lies = subst (λ (f : FilmData). LiesIn f c.rest-rest.result.0) c.requires.search.0 (own_lies g (goal.at.whole-requires g c).After-index);
}

pub whole-requires-in-Some : goal.whole-requires-in-Some
whole-requires-in-Some g c = record {
  lies =
      subst (λ (f : FilmData). LiesIn f c.rest-rest.result.0) c.requires.search.0 (own_lies g (goal.at.whole-requires-in-Some g c).After-index);
}

line_is : (g : Over) (c : goal.After-index g) → line_of (front_data c.args.front.now) c.args.place ≡ c.index.result.now
line_is g c = get_or_default c.args.front.now.lines.items c.args.place None c.index.result.now (omega (arith, c.requires.place, c.requires.raised.walked.front_of.lines)) ∙ sym c.index.ensures

pub returns-in-None-clause-reached : goal.returns-in-None-clause-reached
returns-in-None-clause-reached g c =
    let at = (goal.at.returns-in-None-clause-reached g c).After-index in
    reached_static (g.H.Hand.shows c.args.hand.now) c.keeps_limits-2.ensures (front_data c.args.front.now) c.requires.raised.walked.front_of (facts g at) c.requires.raised.walked.filled c.args.found.now
    c.requires.raised.walked.known_of c.args.front.now.numbers.items c.args.place c.requires.place (deeper g at) c.requires.raised.root (line_is g at ∙ c.in-None.is) c.whole.result
    (static_is g at c.whole.result c.whole.ensures)

film_is : (g : Over) (c : goal.After-index g) → (g.H.Hand.shows c.args.hand.now).search.film ≡ c.film-film.result.now
film_is g c = c.requires.search.0 ∙ sym c.film-film.ensures

pub least_over-requires-clause-lies : goal.least_over-requires-clause-lies
least_over-requires-clause-lies g c =
    let at = (goal.at.least_over-requires-clause-lies g c).After-index in
    subst (λ (f : FilmData). LiesIn f c.rest-rest.result.0) (film_is g at) (own_lies g at)

pub least_over-requires-clause-there : goal.least_over-requires-clause-there
least_over-requires-clause-there g c =
    let at = (goal.at.least_over-requires-clause-there g c).After-index in
    subst (λ (q : ℕ). AllFor c.film-film.result.now (front_data c.args.front.now) c.args.found.now c.args.front.now.numbers.items q) (sym (rest_is g at))
    (subst (λ (f : FilmData). AllFor f (front_data c.args.front.now) c.args.found.now c.args.front.now.numbers.items (path_at (front_data c.args.front.now) c.args.place).rest) (film_is g at)
    (all_for (g.H.Hand.shows c.args.hand.now) c.keeps_limits-2.ensures (front_data c.args.front.now) c.requires.raised.walked.front_of (facts g at) c.requires.raised.walked.filled c.args.found.now
    c.requires.raised.walked.known_of c.args.front.now.numbers.items c.args.place c.requires.place (deeper g at) c.in-Some.line (line_is g at ∙ c.in-Some.is)))

most : (g : Over) (c : goal.After-least_over g) → MostFor (g.H.Hand.shows c.args.hand.now).search.film (front_data c.args.front.now) c.args.found.now c.args.front.now.numbers.items
    (path_at (front_data c.args.front.now) c.args.place).rest c.least_over.result
most g c =
    let at = (goal.at.After-least_over g c).After-index in
    subst (λ (f : FilmData). MostFor f (front_data c.args.front.now) c.args.found.now c.args.front.now.numbers.items (path_at (front_data c.args.front.now) c.args.place).rest c.least_over.result)
    (sym (film_is g at))
    (subst (λ (q : ℕ). MostFor c.film-film.result.now (front_data c.args.front.now) c.args.found.now c.args.front.now.numbers.items q c.least_over.result) (rest_is g at) c.least_over.ensures.most)

least : (g : Over) (c : goal.After-least_over g) → LeastFor (g.H.Hand.shows c.args.hand.now).search.film (front_data c.args.front.now) c.args.found.now c.args.front.now.numbers.items
    (path_at (front_data c.args.front.now) c.args.place).rest c.least_over.result
least g c =
    let at = (goal.at.After-least_over g c).After-index in
    subst (λ (f : FilmData). LeastFor f (front_data c.args.front.now) c.args.found.now c.args.front.now.numbers.items (path_at (front_data c.args.front.now) c.args.place).rest c.least_over.result)
    (sym (film_is g at))
    (subst (λ (q : ℕ). LeastFor c.film-film.result.now (front_data c.args.front.now) c.args.found.now c.args.front.now.numbers.items q c.least_over.result) (rest_is g at) c.least_over.ensures.least)

pub raise-requires-clause-may : goal.raise-requires-clause-may
raise-requires-clause-may g c =
    let whole = (goal.at.raise-requires-clause-may g c).After-least_over in
    let at = (goal.at.After-least_over g whole).After-index in
    may_raise (g.H.Hand.shows c.args.hand.now) c.keeps_limits-2.ensures (front_data c.args.front.now) c.requires.raised.walked.front_of (facts g at) c.requires.raised.walked.filled c.args.found.now
    c.requires.raised.walked.known_of c.args.front.now.numbers.items c.args.place c.requires.place (deeper g at) c.in-Some.line (line_is g at ∙ c.in-Some.is)
    c.whole-in-Some.result c.least_over.result (static_is g at c.whole-in-Some.result c.whole-in-Some.ensures) (most g whole) c.max-number.result c.max-number.ensures

pub returns-in_ok-raise-in-Some-clause-reached : goal.returns-in_ok-raise-in-Some-clause-reached
returns-in_ok-raise-in-Some-clause-reached g c =
    let whole = (goal.at.returns-in_ok-raise-in-Some-clause-reached g c).After-least_over in
    let at = (goal.at.After-least_over g whole).After-index in
    reached_raised (g.H.Hand.shows c.args.hand.now) c.keeps_limits-2.ensures (front_data c.args.front.now) c.requires.raised.walked.front_of (facts g at) c.requires.raised.walked.filled c.args.found.now
    c.requires.raised.walked.known_of c.args.front.now.numbers.items c.args.place c.requires.place (deeper g at) c.in-Some.line (line_is g at ∙ c.in-Some.is)
    c.whole-in-Some.result c.least_over.result (static_is g at c.whole-in-Some.result c.whole-in-Some.ensures) (most g whole) (least g whole) c.max-number.result c.max-number.ensures
    (g.H.Hand.shows c.raise.new.self)
    c.in_ok-raise-in-Some.ensures.raised.0 c.in_ok-raise-in-Some.ensures.raised.1 c.in_ok-raise-in-Some.ensures.raised.2
