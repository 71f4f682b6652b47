use Rattle.std.proofs.Common.{◌≡◌, ◌≤◌, ◌∙◌, ℕ, List, All, ap, arith, get_or, inl, inr, length, map, subst, sym}
use Rattle.std.proofs.lemmas.Bool.{cases_eq}
use Rattle.std.proofs.lemmas.List.{get_or-map, length-map}
use Rattle.strip_film.specs.declared.path.Path.{Path}
use Rattle.strip_film.specs.Path.{IsComplete, PathData}
use Rattle.strip_film.specs.Shown.{path_data}
use Rattle.strip_layers.specs.Search.{SearchData}
use Rattle.strip_layers.specs.Shown.{search_data}
use Rattle.strip_layers.proofs.Grown.{rises_self, rises_trans}
use Rattle.strip_layers.proofs.Complete.{HasMet, met, none_layer}
use Rattle.strip_layers.proofs.walking.meet_all.Goals as goal

pub loop-path-init : goal.loop-path-init
loop-path-init c = record {
  found = λ i. c.args.search.now.found.entries;
  met = λ rules is complete. is;
  rises = rises_self (search_data c.args.search.now);
  cheaper = λ place p less. absurd (omega (arith, less));
}

pub loop-path-preserved : goal.loop-path-preserved
loop-path-preserved c =
    let items : List Path = c.paths-path-items.result.now in
    let now : SearchData = search_data c.loop-path.search in
    let after : SearchData = search_data c.meet.new.self in
    let one : HasMet now (path_data c.path-item.result) after = met now after (path_data c.path-item.result) c.meet.ensures.met in
    let shown : (p : PathData) → get_or (map path_data items) c.loop-path.path-index p ≡ path_data c.path-item.result
    = (λ p. get_or-map path_data items c.loop-path.path-index c.path-item.result p c.loop-path-test.true ∙ ap path_data (sym c.path-item.is)) in
    record {
      found = c.meet.ensures.found ∙ c.loop-path.invariant.found;
      met = λ rules is complete. one.search rules (c.loop-path.invariant.met rules is complete)
          (subst (IsComplete rules.film) (shown (path_data c.path-item.result))
          (complete c.loop-path.path-index (path_data c.path-item.result) (omega (arith, c.loop-path-test.true, length-map items path_data))));
      rises = rises_trans (search_data c.args.search.now) now after c.loop-path.invariant.rises one.rises;
      cheaper = λ place p less within. elim (cases_eq place c.loop-path.path-index) [
        | inl same ↦ (let here : (get_or (map path_data items) place p).paid ≡ (path_data c.path-item.result).paid
            = ap (λ (k : ℕ). (get_or (map path_data items) k p).paid) same ∙ ap (λ (q : PathData). q.paid) (shown p) in
            omega (arith, one.cheaper, here))
        | inr other ↦ omega (arith, one.rises.cheaper, c.loop-path.invariant.cheaper place p (omega (arith, less, other)) within)
      ];
    }

pub returns-clause-met : goal.returns-clause-met
returns-clause-met c = λ rules limit is complete.
    let items : List Path = c.paths-path-items.result.now in
    let same : map path_data items ≡ map path_data c.args.paths.now.paths.items = ap (map path_data) c.paths-path-items.ensures in (
      c.loop-path.invariant.met rules is (subst (All (IsComplete rules.film)) (sym same) complete),
      c.loop-path.invariant.rises,
      none_layer rules (search_data c.loop-path.search) limit (map path_data c.args.paths.now.paths.items) c.none.result.sets.keys c.none.result.standings.items
          c.none.ensures
          (λ place p within. subst (λ (paths : List PathData). (search_data c.loop-path.search).best.paid ≤ (get_or paths place p).paid) same
          (c.loop-path.invariant.cheaper place p (omega (arith, within, ap length same, length-map items path_data, c.loop-path-test.false)) (omega (arith, within, ap length same)))),
    )
