use Rattle.std.proofs.Common.{◌≡◌, ◌∙◌, [], false, ℕ, List, ap, arith, length, subst, sym}
use Rattle.strip_mask.proofs.Below.{LiesBelow-full}
use Rattle.strip_model.specs.declared.kind.Kind.{Kind}
use Rattle.strip_model.specs.Film.{FilmData}
use Rattle.strip_film.specs.declared.shared.Line.{Line}
use Rattle.strip_film.specs.Film.{IsFilm, LiesIn, all_scenes}
use Rattle.strip_film.specs.Path.{PathData}
use Rattle.strip_film.specs.Shown.{path_data}
use Rattle.strip_bound.specs.Bounds.{bound}
use Rattle.strip_layers.specs.Layered.{IsLayered}
use Rattle.strip_layers.specs.Search.{AreTrue}
use Rattle.strip_layers.specs.Shown.{layered_data, search_data}
use Rattle.strip_layers.proofs.Ended.{layered_is, nothing_is}
use Rattle.strip_layers.proofs.searching.search_by_layers.Goals as goal

pub bound-bound-requires : goal.bound-bound-requires
bound-bound-requires g c =
    let film : FilmData = g.A.Answers.film in
    subst (LiesIn film) (sym (c.all.ensures ∙ ap all_scenes c.film-film.ensures)) (LiesBelow-full (length film.casts))

pub returns-then-bound-paid-clause-layered : goal.returns-then-bound-paid-clause-layered
returns-then-bound-paid-clause-layered g c =
    let kind : Kind = g.A.Answers.kind in
    let film : FilmData = g.A.Answers.film in
    let start : PathData = path_data c.args.start.now in
    let is : IsFilm film = subst IsFilm c.film-film.ensures c.keeps_limits.ensures in
    let static : bound kind film (all_scenes film) ≡ c.bound-bound.result
    = sym (c.bound-bound.ensures ∙ ap (bound kind film) (c.all.ensures ∙ ap all_scenes c.film-film.ensures)) in
    subst (λ (lines : List Line). IsLayered kind film start c.args.nodes (record { lines = lines; bound = c.bound-bound.result; best = start; is_spent = false }))
    (sym c.new.ensures.items)
    (subst (λ (n : ℕ). IsLayered kind film start c.args.nodes (record { lines = []; bound = n; best = start; is_spent = false })) static
    (nothing_is kind film start c.args.nodes is c.requires.start (omega (arith, c.if-bound-paid.true, c.paid.ensures, static))
    (λ order. (c.kept_orders_are_ready_lists.ensures film order is).1)
    (λ order is_order. c.steps_add_up_to_the_pay.ensures film order is is_order)))

pub returns-clause-layered : goal.returns-clause-layered
returns-clause-layered g c =
    let kind : Kind = g.A.Answers.kind in
    let film : FilmData = g.A.Answers.film in
    let start : PathData = path_data c.args.start.now in
    let is : IsFilm film = subst IsFilm c.film-film.ensures c.keeps_limits.ensures in
    layered_is kind film start c.args.nodes (search_data c.rise.new.search) (layered_data c.end.result) is c.in_ok-rise.ensures.search
    (c.in_ok-rise.ensures.rises.goal ∙ c.in_ok-search.ensures.begun.goal) (c.in_ok-rise.ensures.rises.nodes ∙ c.in_ok-search.ensures.begun.nodes)
    c.in_ok-rise.ensures.ended c.end.ensures.ended
    (λ order. (c.kept_orders_are_ready_lists.ensures film order is).1)
    (λ order is_order. c.steps_add_up_to_the_pay.ensures film order is is_order)

pub returns-clause-found : goal.returns-clause-found
returns-clause-found g c =
    subst (AreTrue g.A.Answers.kind g.A.Answers.film) (sym c.end.ensures.found) c.in_ok-rise.ensures.found
