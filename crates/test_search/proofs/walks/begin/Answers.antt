use Rattle.std.proofs.Common.{◌≡◌, ◌∙◌, ℕ, Some, sym, ap, subst, arith}
use Rattle.strip_model.specs.declared.kind.Kind.{Kind}
use Rattle.strip_model.specs.Film.{FilmData}
use Rattle.strip_film.specs.Shown.{CursorData}
use Rattle.strip_lines.specs.Lines.{rules_of}
use Rattle.strip_hand.specs.Calls.{Claims}
use Rattle.strip_hand.specs.Hand.{HandData}
use Rattle.strip_hand.specs.Search.{SearchData, search_rules}
use Rattle.strip_front.specs.Front.{IsEmptyFront}
use Rattle.strip_front.specs.Shown.{front_data}
use Rattle.test_search.proofs.walks.begin.Goals as goal

pub go_down-requires-clause-may : goal.go_down-requires-clause-may
go_down-requires-clause-may g c =
    let front = front_data c.args.front.now in
    let before = g.H.Hand.shows c.args.hand.now in
    let after = g.H.Hand.shows c.claimed.new.hand in
    let first : c.in_ok-part.part ≡ 0 = omega (arith, c.if-part-ne0.false) in
    let claims : Claims before (Some 0) after = subst (λ (p : ℕ). Claims before (Some p) after) first c.in_ok-part.ensures.claimed in
    let same : after.search ≡ before.search = ap (λ (h : HandData). h.search) claims.0 in
    record {
      unfilled = record {
        tasks = ap (λ (s : SearchData). s.tasks) same ∙ c.requires.tasks;
        empty = subst (λ (s : SearchData). IsEmptyFront (search_rules s) front) (sym same)
            (subst (λ (k : Kind). IsEmptyFront (rules_of k before.search.film) front) (sym c.requires.search.1)
            (subst (λ (f : FilmData). IsEmptyFront (rules_of g.B.Bounds.kind f) front) (sym c.requires.search.0) c.requires.front));
      };
      stands = (
        0,
        ap (λ (k : CursorData). after.records k.task) c.of.ensures ∙ claims.3
            ∙ ap (λ (k : CursorData). Some (record { last = k.last; number = 0 })) (sym c.of.ensures),
      );
      begins = c.of.ensures;
    }
