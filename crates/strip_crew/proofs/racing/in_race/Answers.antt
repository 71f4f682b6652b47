use Rattle.std.proofs.Common.{◌≡◌, ◌∙◌, ℕ, IfOk, ap, subst}
use Rattle.strip_hand.specs.Search.{SearchData}
use Rattle.strip_book.specs.View.{ViewData}
use Rattle.strip_lines.specs.Ended.{EndsFrom, ended_data}
use Rattle.strip_crew.specs.Crew.{shown}
use Rattle.strip_crew.proofs.racing.in_race.Goals as goal

pub end-requires : goal.end-requires
end-requires g c = record { closed = (_, c.in_ok-passes.ensures.closed) }

pub returns : goal.returns
returns g c = record {
  ended = λ paid room opening. (
      let same : (shown c.in_ok-passes.passes).search ≡ (shown c.args.opening.passes).search
      = c.in_ok-passes.ensures.closed.search ∙ ap (λ (v : ViewData). v.search) c.new.ensures.same in
      subst (λ (start : ℕ). IfOk c.end.result (λ ended. EndsFrom g.B.Bounds.kind g.B.Bounds.film start room (ended_data ended)))
      (ap (λ (s : SearchData). s.start) same ∙ opening.start)
      (subst (λ (nodes : ℕ). IfOk c.end.result (λ ended. EndsFrom g.B.Bounds.kind g.B.Bounds.film (shown c.in_ok-passes.passes).search.start nodes (ended_data ended)))
      (ap (λ (s : SearchData). s.nodes) same ∙ opening.nodes) c.end.ensures));
}
