use Rattle.std.proofs.Common.{◌≡◌, ◌+◌, ◌-◌, ◌^◌, ◌∙◌, ℕ, append_assoc, ap, length, min, refl, subst, sym}
use Rattle.strip_mask.specs.Iter.{rest_of}
use Rattle.strip_mask.specs.Set.{members, without}
use Rattle.strip_mask.proofs.Below.{LiesBelow-full, LiesBelow-without}
use Rattle.strip_mask.proofs.Turns.{turn_below, turn_member, turns_all}
use Rattle.strip_model.specs.declared.kind.Kind.{Kind}
use Rattle.strip_model.specs.Film.{FilmData}
use Rattle.strip_film.specs.Film.{LiesIn, all_scenes}
use Rattle.strip_film.specs.Shoot.{on_location, step_cost}
use Rattle.strip_film.proofs.Located.{location_lies}
use Rattle.strip_bound.specs.Bounds.{bound}
use Rattle.strip_lines.specs.Lines.{rules_of}
use Rattle.strip_rule.specs.Rule.{open_firsts}
use Rattle.strip_rule.proofs.Firsts.{first_there}
use Rattle.strip_layers.specs.Begun.{LooksAhead}
use Rattle.strip_layers.proofs.Leasts.{IsLeastSo, least_more, least_none, looks_ahead, reach_of, step_by}
use Rattle.strip_layers.proofs.beginning.look_ahead.Goals as goal

all_in : (film : FilmData) (set : ℕ) → set ≡ all_scenes film → LiesIn film set
all_in film set is = subst (LiesIn film) (sym is) (LiesBelow-full (length film.casts))

pub on-on-requires : goal.on-on-requires
on-on-requires g c = all_in c.film-film.result.now c.all-all.result.0 c.all-all.ensures

pub open_firsts_with-requires-clause-lies : goal.open_firsts_with-requires-clause-lies
open_firsts_with-requires-clause-lies g c = all_in c.film-film.result.now c.all-all.result.0 c.all-all.ensures

pub loop-s-init : goal.loop-s-init
loop-s-init g c = record {
  least = least_none (reach_of c.film-film.result.now (all_scenes c.film-film.result.now)
      (bound g.A.Answers.kind g.A.Answers.film)) (2 ^ 64 - 1) refl;
  turns = ap rest_of c.into_iter-s-iterator.ensures.into_iter_gives ∙ c.iter-s-items.ensures.left ∙ ap members c.open_firsts_with.ensures
      ∙ ap (λ (q : ℕ). members (open_firsts c.film-film.result.now q)) c.all-all.ensures;
}

pub without-requires : goal.without-requires
without-requires g c =
    turn_below (open_firsts c.film-film.result.now (all_scenes c.film-film.result.now)) c.in-Some.s c.loop-s.yielded (rest_of c.loop-s.s-iterator)
    (rest_of c.next.new.self) c.loop-s.invariant.turns c.in-Some.ensures.steps

pub bound-behind-requires : goal.bound-behind-requires
bound-behind-requires g c =
    subst (λ (film : FilmData). LiesIn film c.without.result.0) c.film-film.ensures
    (subst (LiesIn c.film-film.result.now) (sym c.without.ensures)
    (LiesBelow-without (length c.film-film.result.now.casts) c.all-all.result.0 c.in-Some.s (all_in c.film-film.result.now c.all-all.result.0 c.all-all.ensures)))

pub step_with-requires-clause-known : goal.step_with-requires-clause-known
step_with-requires-clause-known g c =
    let film : FilmData = c.film-film.result.now in
    LiesBelow-full (length film.casts) c.in-Some.s (first_there film (all_scenes film) c.in-Some.s
    (turn_member (open_firsts film (all_scenes film)) c.in-Some.s c.loop-s.yielded (rest_of c.loop-s.s-iterator) (rest_of c.next.new.self)
    c.loop-s.invariant.turns c.in-Some.ensures.steps))

pub step_with-requires-clause-actors : goal.step_with-requires-clause-actors
step_with-requires-clause-actors g c = rw c.on-on.ensures (location_lies c.film-film.result.now c.all-all.result.0 c.keeps_limits.ensures)

pub loop-s-preserved : goal.loop-s-preserved
loop-s-preserved g c =
    let film : FilmData = c.film-film.result.now in
    let value : ℕ → ℕ = bound g.A.Answers.kind g.A.Answers.film in
    let step : c.step_with.result ≡ step_cost film (all_scenes film) c.in-Some.s
    = c.step_with.ensures ∙ ap (step_by film c.in-Some.s) (c.on-on.ensures ∙ ap (on_location film) c.all-all.ensures) in
    let behind : c.bound-behind.result ≡ value (without (all_scenes film) c.in-Some.s)
    = c.bound-behind.ensures ∙ ap value (c.without.ensures ∙ ap (λ (q : ℕ). without q c.in-Some.s) c.all-all.ensures) in
    let here : c.saturating_add.result ≡ min (reach_of film (all_scenes film) value c.in-Some.s) (2 ^ 64 - 1)
    = c.saturating_add.ensures ∙ (λ i. min (step i + behind i) (2 ^ 64 - 1)) in
    record {
      least = least_more (reach_of film (all_scenes film) value) c.loop-s.yielded c.in-Some.s c.loop-s.least c.saturating_add.result c.min-least.result
          c.loop-s.invariant.least here c.min-least.ensures;
      turns = rw append_assoc (rw (← c.in-Some.ensures.steps) c.loop-s.invariant.turns);
    }

pub returns : goal.returns
returns g c =
    let kind : Kind = g.A.Answers.kind in
    let film : FilmData = c.film-film.result.now in
    let value : ℕ → ℕ = bound kind g.A.Answers.film in
    let all : IsLeastSo (reach_of film (all_scenes film) value) (members (open_firsts film (all_scenes film))) c.loop-s.least
    = subst (λ scenes. IsLeastSo (reach_of film (all_scenes film) value) scenes c.loop-s.least)
    (turns_all (open_firsts film (all_scenes film)) c.loop-s.yielded (rest_of c.loop-s.s-iterator) c.loop-s.invariant.turns c.in-None.ensures.steps.0)
    c.loop-s.invariant.least in
    subst (λ (f : FilmData). LooksAhead (rules_of kind f) c.loop-s.least) c.film-film.ensures
    (looks_ahead kind film c.loop-s.least c.keeps_limits.ensures
    (subst (λ (f : FilmData). IsLeastSo (reach_of film (all_scenes film) (bound kind f)) (members (open_firsts film (all_scenes film))) c.loop-s.least)
    (sym c.film-film.ensures) all))
