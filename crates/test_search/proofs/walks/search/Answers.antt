use Rattle.std.proofs.Common.{ℕ, List, sym, subst}
use Rattle.strip_model.specs.declared.kind.Kind.{Kind}
use Rattle.strip_model.specs.Film.{FilmData}
use Rattle.strip_lines.specs.Lines.{rules_of}
use Rattle.strip_front.specs.Calls.{IsWalked}
use Rattle.strip_front.specs.Front.{IsFrontOf}
use Rattle.strip_front.specs.Shown.{front_data}
use Rattle.test_search.proofs.walks.search.Goals as goal

pub close_up-requires-clause-walked : goal.close_up-requires-clause-walked
close_up-requires-clause-walked g c =
    let front = front_data c.begin.new.front in
    let hand = g.H.Hand.shows c.take_tasks.new.hand in
    let way = c.in_ok-take_tasks.ensures.way in
    subst (λ (found : List ℕ). IsWalked hand front found) (sym c.deref.ensures.value) (record {
      front_of = subst (λ (k : Kind). IsFrontOf (rules_of k hand.search.film) front) (sym way.search.1)
          (subst (λ (f : FilmData). IsFrontOf (rules_of g.B.Bounds.kind f) front) (sym way.search.0) way.front_of);
      filled = way.filled;
      count = way.long;
      known_of = way.known;
    })
