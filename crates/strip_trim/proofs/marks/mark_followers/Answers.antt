use Rattle.std.proofs.Common.{arith, ◌≡◌, ◌-◌, ◌<◌, ℕ, length, append_assoc, sym, ap, ◌∙◌, subst}
use Rattle.strip_mask.specs.Iter.{rest_of}
use Rattle.strip_mask.specs.Set.{members, without}
use Rattle.strip_mask.proofs.Below.{LiesBelow-without}
use Rattle.strip_mask.proofs.Turns.{turn_below, turn_member, turns_all}
use Rattle.strip_model.specs.Film.{FilmData}
use Rattle.strip_film.specs.Film.{IsFilm, LiesIn}
use Rattle.strip_film.specs.Rules.{Rules}
use Rattle.strip_film.specs.Shoot.{step_cost}
use Rattle.strip_bound.specs.Bounds.{bound}
use Rattle.strip_lines.specs.Lines.{rules_of}
use Rattle.strip_rule.specs.Rule.{open_firsts}
use Rattle.strip_rule.proofs.Firsts.{first_there, firsts_set}
use Rattle.strip_trim.specs.Best.{best_bound}
use Rattle.strip_trim.specs.Marks.{IsBestOf, MarksMore}
use Rattle.strip_trim.proofs.Firsts.{short_from, short_to}
use Rattle.strip_trim.proofs.Followers.{follows_all, follows_if, follows_none}
use Rattle.strip_trim.proofs.marks.mark_followers.Goals as goal

pub loop-s-init : goal.loop-s-init
loop-s-init g c = record {
  turns = ap rest_of c.into_iter-s-iterator.ensures.into_iter_gives ∙ c.iter-s-items.ensures.left
      ∙ (λ i. members (c.open_firsts.ensures.«open» i)) ∙ (λ i. members (open_firsts (c.film-film.ensures i) c.args.entry.now.set));
  marked = follows_none (rules_of g.B.Bounds.kind g.B.Bounds.film) c.args.best.now.lines c.args.entry.now.set c.args.marks.now;
}

pub without-rest-requires : goal.without-rest-requires
without-rest-requires g c =
    turn_below (open_firsts g.B.Bounds.film c.args.entry.now.set) c.in-Some.s c.loop-s.yielded (rest_of c.loop-s.s-iterator) (rest_of c.next.new.self)
    c.loop-s.invariant.turns c.in-Some.ensures.steps

pub step-requires-clause-remains : goal.step-requires-clause-remains
step-requires-clause-remains g c =
    first_there g.B.Bounds.film c.args.entry.now.set c.in-Some.s
    (turn_member (open_firsts g.B.Bounds.film c.args.entry.now.set) c.in-Some.s c.loop-s.yielded (rest_of c.loop-s.s-iterator) (rest_of c.next.new.self)
    c.loop-s.invariant.turns c.in-Some.ensures.steps)

pub mark_below-requires-clause-lies : goal.mark_below-requires-clause-lies
mark_below-requires-clause-lies g c =
    subst (LiesIn g.B.Bounds.film) (sym c.without-rest.ensures)
    (LiesBelow-without (length g.B.Bounds.film.casts) c.args.entry.now.set c.in-Some.s c.requires.lies)

pub loop-s-preserved : goal.loop-s-preserved
loop-s-preserved g c =
    let q : ℕ = c.args.entry.now.set in
    let lines = c.args.best.now.lines in
    let rules : Rules = rules_of g.B.Bounds.kind g.B.Bounds.film in
    let step : c.step.result ≡ step_cost g.B.Bounds.film q c.in-Some.s
    = omega (arith, c.step.ensures, ap (λ (film : FilmData). step_cost film q c.in-Some.s) c.film-film.ensures) in
    let need : c.saturating_sub-need.result ≡ best_bound lines q - step_cost g.B.Bounds.film q c.in-Some.s
    = omega (arith, c.saturating_sub-need.ensures, c.requires.bound, step) in
    let more : MarksMore c.loop-s.marks c.mark_below.new.marks (λ place. (rules.bound (without q c.in-Some.s) < c.saturating_sub-need.result)
    × IsBestOf lines (without q c.in-Some.s) place)
    = subst (λ (rest : ℕ). MarksMore c.loop-s.marks c.mark_below.new.marks (λ place. (rules.bound rest < c.saturating_sub-need.result) × IsBestOf lines rest place))
    c.without-rest.ensures c.mark_below.ensures.marked in
    record {
      turns = rw append_assoc (rw (← c.in-Some.ensures.steps) c.loop-s.invariant.turns);
      marked = follows_if rules lines q c.args.marks.now c.loop-s.marks c.loop-s.yielded c.in-Some.s c.loop-s.invariant.marked c.mark_below.new.marks
          (rules.bound (without q c.in-Some.s) < c.saturating_sub-need.result)
          (λ below. short_from (step_cost g.B.Bounds.film q c.in-Some.s) (rules.bound (without q c.in-Some.s)) c.saturating_sub-need.result
          (best_bound lines q) need below)
          (λ short. short_to (step_cost g.B.Bounds.film q c.in-Some.s) (rules.bound (without q c.in-Some.s)) c.saturating_sub-need.result
          (best_bound lines q) need short)
          more;
    }

pub returns : goal.returns
returns g c = record {
  marked =
      let film : FilmData = g.B.Bounds.film in
      let is : IsFilm film = subst IsFilm c.film-film.ensures c.keeps_limits.ensures in
      let above : bound g.B.Bounds.kind film c.args.entry.now.set < best_bound c.args.best.now.lines c.args.entry.now.set
      = subst (λ (most : ℕ). bound g.B.Bounds.kind film c.args.entry.now.set < most) c.requires.bound
      (c.is_below.ensures.below.0 c.if-not-is_below.false) in
      follows_all (rules_of g.B.Bounds.kind film) c.args.best.now.lines c.args.entry.now.set c.args.marks.now c.loop-s.marks c.loop-s.yielded
      (firsts_set film c.args.entry.now.set is c.requires.lies)
      (turns_all (open_firsts film c.args.entry.now.set) c.loop-s.yielded (rest_of c.loop-s.s-iterator) c.loop-s.invariant.turns c.in-None.ensures.steps.0)
      above c.loop-s.invariant.marked;
}
