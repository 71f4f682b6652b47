use Rattle.std.proofs.Common.{◌≡◌, ℕ, List, ap, sym, ◌∙◌, subst}
use Rattle.strip_model.specs.Film.{FilmData}
use Rattle.strip_film.specs.Film.{all_scenes}
use Rattle.strip_rule.proofs.Firsts.{first_there}
use Rattle.strip_lines.specs.Lines.{rules_of}
use Rattle.strip_trim.specs.declared.best.BestLine.{BestLine}
use Rattle.strip_trim.proofs.BestKnown.{bound_best}
use Rattle.strip_trim.specs.Marks.{IsBestOf, MarksMore}
use Rattle.strip_trim.proofs.Firsts.{without_less}
use Rattle.strip_trim.proofs.Reached.{IsUnderWay, best_now, ended, passed, passed_by, started}
use Rattle.strip_trim.proofs.marks.mark_reached.Goals as goal

pub loop-entry-init : goal.loop-entry-init
loop-entry-init g c = record {
  way =
      let all : c.all.result.0 ≡ all_scenes g.B.Bounds.film = c.all.ensures ∙ ap (λ (film : FilmData). all_scenes film) c.film.ensures in
      let more : MarksMore c.args.marks.now c.mark.new.marks (IsBestOf c.args.best.now.lines (all_scenes g.B.Bounds.film))
      = subst (λ (q : ℕ). MarksMore c.args.marks.now c.mark.new.marks (IsBestOf c.args.best.now.lines q)) all c.mark.ensures in
      let items : c.into_iter-entry-iterator.result.iter.rest.now ≡ c.args.best.now.entries
      = (λ i. (c.into_iter-entry-iterator.ensures.into_iter_gives i).iter.rest.now) ∙ (λ i. (c.rev-entry-items.ensures.source i).rest.now)
      ∙ c.iter.ensures.rest ∙ c.entries.ensures.entries in
      subst (λ (rest : List BestLine). IsUnderWay (rules_of g.B.Bounds.kind g.B.Bounds.film) c.args.best.now.lines c.args.best.now.entries rest c.mark.new.marks)
      (sym items)
      (started (rules_of g.B.Bounds.kind g.B.Bounds.film) c.args.best.now.lines c.args.best.now.entries c.entries.ensures.best
      c.args.marks.now c.mark.new.marks c.requires.none more);
}

pub mark_followers-requires-clause-bound : goal.mark_followers-requires-clause-bound
mark_followers-requires-clause-bound g c =
    let way = subst (λ (rest : List BestLine). IsUnderWay (rules_of g.B.Bounds.kind g.B.Bounds.film) c.args.best.now.lines c.args.best.now.entries rest c.loop-entry.marks)
    c.in-Some.ensures.steps c.loop-entry.invariant.way in
    bound_best c.args.best.now.lines c.in-Some.entry.now
    (best_now (rules_of g.B.Bounds.kind g.B.Bounds.film) c.args.best.now.lines c.args.best.now.entries c.entries.ensures.best
    c.next.new.self.iter.rest.now c.in-Some.entry.now c.loop-entry.marks way)

pub loop-entry-preserved-then-marks-entry : goal.loop-entry-preserved-then-marks-entry
loop-entry-preserved-then-marks-entry g c = record {
  way =
      let way = subst (λ (rest : List BestLine). IsUnderWay (rules_of g.B.Bounds.kind g.B.Bounds.film) c.args.best.now.lines c.args.best.now.entries rest c.loop-entry.marks)
      c.in-Some.ensures.steps c.loop-entry.invariant.way in
      passed (rules_of g.B.Bounds.kind g.B.Bounds.film) c.args.best.now.lines c.args.best.now.entries c.entries.ensures.best
      c.next.new.self.iter.rest.now c.in-Some.entry.now c.loop-entry.marks way
      (λ set scene first. without_less set scene (first_there g.B.Bounds.film set scene first))
      c.mark_followers.new.marks c.if-marks-entry.true c.mark_followers.ensures.marked;
}

pub loop-entry-preserved : goal.loop-entry-preserved
loop-entry-preserved g c = record {
  way =
      let way = subst (λ (rest : List BestLine). IsUnderWay (rules_of g.B.Bounds.kind g.B.Bounds.film) c.args.best.now.lines c.args.best.now.entries rest c.loop-entry.marks)
      c.in-Some.ensures.steps c.loop-entry.invariant.way in
      passed_by (rules_of g.B.Bounds.kind g.B.Bounds.film) c.args.best.now.lines c.args.best.now.entries c.entries.ensures.best
      c.next.new.self.iter.rest.now c.in-Some.entry.now c.loop-entry.marks way c.if-marks-entry.false;
}

pub returns : goal.returns
returns g c = record {
  marked =
      ended (rules_of g.B.Bounds.kind g.B.Bounds.film) c.args.best.now.lines c.args.best.now.entries c.entries.ensures.best
      c.loop-entry.entry-iterator.iter.rest.now c.loop-entry.marks c.loop-entry.invariant.way c.in-None.ensures.steps.0
      (c.loop-entry.auto.marks ∙ c.mark.auto.marks ∙ c.requires.count);
}
