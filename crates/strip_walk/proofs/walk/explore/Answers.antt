use Rattle.std.proofs.Common.{◌≡◌, sym, ◌∙◌, subst}
use Rattle.strip_film.specs.Film.{LiesIn}
use Rattle.strip_model.specs.Film.{FilmData}
use Rattle.strip_film.specs.Path.{PathData}
use Rattle.strip_film.specs.Shown.{cursor_data, path_data}
use Rattle.strip_film.proofs.Paths.{rest_lies}
use Rattle.strip_hand.specs.Search.{SearchData}
use Rattle.strip_walk.specs.Begun.{Offers}
use Rattle.strip_walk.proofs.Answered.{cut_explores}
use Rattle.strip_walk.proofs.Ended.{offered_explores}
use Rattle.strip_walk.proofs.Stayed.{explores_after, may_still}
use Rattle.strip_walk.proofs.walk.explore.Goals as goal

pub returns-then-is_empty-clause-explored : goal.returns-then-is_empty-clause-explored
returns-then-is_empty-clause-explored g c =
    offered_explores (g.H.Hand.shows c.args.hand.now) (g.H.Hand.shows c.offer.new.hand) (cursor_data c.args.cursor.now) (path_data c.args.running.now.path)
    c.offer.result c.requires.may (sym c.rest.ensures ∙ c.is_empty.ensures.0 c.if-is_empty.true)
    (subst (λ (path : PathData). Offers (g.H.Hand.shows c.args.hand.now) path c.offer.result (g.H.Hand.shows c.offer.new.hand)) c.path.ensures c.offer.ensures.offered)

pub meet-met-requires-clause-lies : goal.meet-met-requires-clause-lies
meet-met-requires-clause-lies g c =
    let path : PathData = path_data c.args.running.now.path in
    subst (LiesIn g.B.Bounds.film) (sym c.rest-2.ensures)
    (subst (λ (film : FilmData). LiesIn film path.rest) c.requires.search.0 (rest_lies (g.H.Hand.shows c.args.hand.now).search.film path c.requires.may.is_open.0))

pub returns-in-Cut-clause-explored : goal.returns-in-Cut-clause-explored
returns-in-Cut-clause-explored g c =
    let path : PathData = path_data c.args.running.now.path in
    cut_explores (g.H.Hand.shows c.args.hand.now) (g.H.Hand.shows c.meet-met.new.hand) (cursor_data c.args.cursor.now) path c.in-Cut.found
    c.keeps_limits.ensures c.requires.may (c.in-Cut.ensures.met path (sym c.rest-2.ensures) (sym c.paid.ensures))

pub walk_on-requires-clause-search : goal.walk_on-requires-clause-search
walk_on-requires-clause-search g c =
    let met = c.in-Through.ensures.met (path_data c.args.running.now.path) (sym c.rest-2.ensures) (sym c.paid.ensures) in
    subst (λ (of : SearchData). (of.film ≡ g.B.Bounds.film) × (of.kind ≡ g.B.Bounds.kind)) (sym met.0.search) c.requires.search

pub walk_on-requires-clause-may : goal.walk_on-requires-clause-may
walk_on-requires-clause-may g c =
    let path : PathData = path_data c.args.running.now.path in
    may_still (g.H.Hand.shows c.args.hand.now) (g.H.Hand.shows c.meet-met.new.hand) (cursor_data c.args.cursor.now) path
    (c.in-Through.ensures.met path (sym c.rest-2.ensures) (sym c.paid.ensures)).0 c.requires.may

pub walk_on-requires-clause-through : goal.walk_on-requires-clause-through
walk_on-requires-clause-through g c = (c.in-Through.ensures.met (path_data c.args.running.now.path) (sym c.rest-2.ensures) (sym c.paid.ensures)).1

pub returns-in-Through-clause-explored : goal.returns-in-Through-clause-explored
returns-in-Through-clause-explored g c =
    let path : PathData = path_data c.args.running.now.path in
    explores_after (g.H.Hand.shows c.args.hand.now) (g.H.Hand.shows c.meet-met.new.hand) (g.H.Hand.shows c.walk_on.new.hand) (cursor_data c.args.cursor.now)
    (cursor_data c.walk_on.new.cursor) path c.keeps_limits.ensures.few c.requires.may.stands
    (c.in-Through.ensures.met path (sym c.rest-2.ensures) (sym c.paid.ensures)).0 c.walk_on.result c.walk_on.ensures.explored
