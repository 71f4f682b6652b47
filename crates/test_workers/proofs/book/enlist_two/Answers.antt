use Rattle.std.proofs.Common.{◌≡◌, ℕ, ◌≤◌, true, List, [], ◌∷◌, ◌++◌, ap, arith, sym, ◌∙◌, subst}
use Rattle.std.proofs.lemmas.Bool.{false≢true}
use Rattle.strip_mask.specs.Set.{has}
use Rattle.strip_model.specs.Film.{FilmData}
use Rattle.strip_film.specs.Film.{LiesIn, all_scenes}
use Rattle.strip_film.specs.Path.{IsPath, PathData}
use Rattle.strip_film.specs.Shoot.{ready}
use Rattle.strip_film.specs.Shown.{path_data}
use Rattle.strip_film.proofs.Paths.{rest_lies}
use Rattle.strip_bound.specs.Bounds.{bound}
use Rattle.strip_rule.specs.Rule.{open_firsts}
use Rattle.strip_hand.specs.Search.{SearchData, depth_of}
use Rattle.test_workers.proofs.Front.{may_enlist_one, may_enlist_whole}
use Rattle.test_workers.proofs.book.enlist_two.Goals as goal

pub whole-bound-requires : goal.whole-bound-requires
whole-bound-requires g c = record {
  lies = subst (LiesIn g.B.Bounds.film) (sym c.rest-all.ensures)
      (rest_lies g.B.Bounds.film (path_data c.start-empty.result)
      (subst (λ (f : FilmData). IsPath f (path_data c.start-empty.result)) c.film-film.ensures c.start-empty.ensures.path));
}

pub open_firsts-firsts-requires : goal.open_firsts-firsts-requires
open_firsts-firsts-requires g c =
    subst (LiesIn c.film-film.result.now) (sym c.rest-all.ensures) (rest_lies c.film-film.result.now (path_data c.start-empty.result) c.start-empty.ensures.path)

pub ready-requires : goal.ready-requires
ready-requires g c =
    subst (LiesIn c.film-film.result.now) (sym c.rest-all.ensures) (rest_lies c.film-film.result.now (path_data c.start-empty.result) c.start-empty.ensures.path)

pub whole-later-requires : goal.whole-later-requires
whole-later-requires g c = record {
  lies = subst (LiesIn g.B.Bounds.film) (sym c.rest-rest.ensures)
      (rest_lies g.B.Bounds.film (path_data c.extend-path.result)
      (subst (λ (f : FilmData). IsPath f (path_data c.extend-path.result)) c.film-film.ensures c.extend-path.ensures.path));
}

pub enlist-requires-clause-may : goal.enlist-requires-clause-may
enlist-requires-clause-may g c =
    let film : FilmData = g.B.Bounds.film in
    let paid : (path_data c.start-empty.result).paid ≡ 0 = ap (λ (p : PathData). p.paid) c.start-empty.ensures.start in
    may_enlist_whole g.B.Bounds.kind film c.args.pass.now.seat.me.0 c.requires.goes_by (path_data c.start-empty.result) c.whole-bound.result c.requires.start
    (subst (λ (f : FilmData). IsPath f (path_data c.start-empty.result)) c.film-film.ensures c.start-empty.ensures.path)
    (λ zero. false≢true (c.if-is_empty.ensures.1 (c.rest-all.ensures ∙ zero)))
    (c.whole-bound.ensures ∙ ap (bound g.B.Bounds.kind film) c.rest-all.ensures)
    (omega (arith, paid, c.if-bound-ge14.false))
    c.requires.stands
    (ap (λ (p : PathData). p.scenes) c.start-empty.ensures.start)
    c.requires.deep

pub extend-path-requires-clause-path : goal.extend-path-requires-clause-path
extend-path-requires-clause-path g c = c.start-empty.ensures.path

pub extend-path-requires-clause-ready : goal.extend-path-requires-clause-ready
extend-path-requires-clause-ready g c =
    ap (λ (q : ℕ). has (ready c.film-film.result.now q) c.args.first) (sym c.rest-all.ensures)
    ∙ ap (λ (q : ℕ). has q c.args.first) (sym c.ready.ensures) ∙ sym c.if-not-has-2.ensures

pub enlist-then-requires-clause-may : goal.enlist-then-requires-clause-may
enlist-then-requires-clause-may g c =
    let film : FilmData = g.B.Bounds.film in
    let made = c.in-Line.ensures.listed in
    let path : PathData = path_data c.extend-path.result in
    let none : (path_data c.start-empty.result).scenes ≡ [] = ap (λ (p : PathData). p.scenes) c.start-empty.ensures.start in
    let all : c.rest-all.result.0 ≡ all_scenes c.film-film.result.now = c.rest-all.ensures ∙ ap (λ (p : PathData). p.rest) c.start-empty.ensures.start in
    let opens : has (open_firsts c.film-film.result.now (all_scenes c.film-film.result.now)) c.args.first ≡ true
    = ap (λ (q : ℕ). has (open_firsts c.film-film.result.now q) c.args.first) (sym all)
    ∙ ap (λ (q : ℕ). has q c.args.first) (sym c.open_firsts-firsts.ensures.«open») ∙ sym c.if-not-has.ensures in
    may_enlist_one g.B.Bounds.kind film c.enlist.new.self.seat.me.0
    (ap (λ (s : SearchData). s.film) made.stays.search ∙ c.requires.goes_by.0, ap (λ (s : SearchData). s.kind) made.stays.search ∙ c.requires.goes_by.1)
    path c.whole-later.result (ap (λ (s : SearchData). s.start) made.stays.search ∙ c.requires.start)
    (subst (λ (f : FilmData). IsPath f path) c.film-film.ensures c.extend-path.ensures.path)
    (λ zero. false≢true (c.if-is_empty-2.ensures.1 (c.rest-rest.ensures ∙ zero)))
    (c.whole-later.ensures ∙ ap (bound g.B.Bounds.kind film) c.rest-rest.ensures)
    (omega (arith, c.paid.ensures, c.paid-else-paid-ge14.ensures, c.if-paid-ge14.false, c.if-later-paid.false))
    (path_data c.start-empty.result) _ c.args.first made.counted.is none
    (ap (λ (p : PathData). p.scenes) c.extend-path.ensures.extended ∙ ap (λ (xs : List ℕ). xs ++ c.args.first ∷ []) none)
    (subst (λ (f : FilmData). has (open_firsts f (all_scenes f)) c.args.first ≡ true) c.film-film.ensures opens)
    (subst (λ (s : SearchData). 2 ≤ depth_of s) (sym made.stays.search) c.requires.deep)
