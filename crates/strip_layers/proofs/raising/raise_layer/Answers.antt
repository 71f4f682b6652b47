use Rattle.std.proofs.Common.{◌≡◌, ◌∙◌, ◌+◌, ◌<◌, ℕ, Some, None, List, ap, arith, get_or, length, refl, set, subst, sym}
use Rattle.std.proofs.lemmas.List.{get_or_default, length-set}
use Rattle.strip_model.specs.declared.kind.Kind.{Kind}
use Rattle.strip_model.specs.Film.{FilmData}
use Rattle.strip_film.specs.Film.{LiesIn}
use Rattle.strip_lines.specs.Lines.{rules_of}
use Rattle.strip_layers.specs.declared.layer.Standing.{Standing}
use Rattle.strip_layers.specs.Layer.{no_standing, standing_at}
use Rattle.strip_layers.specs.Search.{SearchData}
use Rattle.strip_layers.specs.Shown.{search_data}
use Rattle.strip_layers.proofs.Rising.{AreRaised, line_here, path_lies, raised_all, raised_closed, raised_none, raised_opened}
use Rattle.strip_layers.proofs.raising.raise_layer.Goals as goal
use Rattle.strip_layers.proofs.raising.raise_layer.Goals.{in-Some, in_default}

pub loop-number-init : goal.loop-number-init
loop-number-init g c = record {
  found = refl;
  count = refl;
  raised = λ limit paths may. raised_none g.A.Answers.kind g.A.Answers.film (search_data c.args.search.now) limit paths
      c.args.layer.sets.keys c.args.layer.standings.items c.args.below.now.sets.keys c.args.below.now.standings.items may;
}

-- the place of a standing that was read
placed : (standings : List Standing) (number line : ℕ) (standing : Standing) → number < length standings → standing ≡ get_or standings number standing
    → standing.place ≡ Some line → (standing_at standings number).place ≡ Some line
placed standings number line standing within is at =
    ap (λ (s : Standing). s.place) (get_or_default standings number no_standing standing within ∙ sym is) ∙ at

unplaced : (standings : List Standing) (number : ℕ) (standing : Standing) → number < length standings → standing ≡ get_or standings number standing
    → standing.place ≡ None → (standing_at standings number).place ≡ None
unplaced standings number standing within is at =
    ap (λ (s : Standing). s.place) (get_or_default standings number no_standing standing within ∙ sym is) ∙ at

pub raise_line-value-requires-clause-place : goal.raise_line-value-requires-clause-place
raise_line-value-requires-clause-place g c =
    let may = c.requires.2 in
    let so = c.loop-number.invariant.raised c.requires.0 c.requires.1 may in
    let here : c.loop-number.number < length c.loop-number.standings.items
    = omega (arith, c.loop-number-test.true, c.len-number-end.ensures, c.loop-number.invariant.count) in
    (line_here g.A.Answers.kind g.A.Answers.film (search_data c.args.search.now) c.requires.0 c.requires.1
    c.args.layer.sets.keys c.args.layer.standings.items c.args.below.now.sets.keys c.args.below.now.standings.items may (search_data c.loop-number.search)
    c.loop-number.number c.loop-number.standings.items so (omega (arith, here, so.count)) c.in-Some.place
    (placed c.loop-number.standings.items c.loop-number.number c.in-Some.place c.index.result.now here c.index.ensures c.in-Some.is)).there

pub raise_line-value-requires-clause-lies : goal.raise_line-value-requires-clause-lies
raise_line-value-requires-clause-lies g c =
    let kind : Kind = g.A.Answers.kind in
    let film : FilmData = g.A.Answers.film in
    let may = c.requires.2 in
    let so = c.loop-number.invariant.raised c.requires.0 c.requires.1 may in
    let here : c.loop-number.number < length c.loop-number.standings.items
    = omega (arith, c.loop-number-test.true, c.len-number-end.ensures, c.loop-number.invariant.count) in
    let within : c.loop-number.number < length c.requires.1 = omega (arith, here, so.count) in
    subst (LiesIn film)
    (sym (line_here kind film (search_data c.args.search.now) c.requires.0 c.requires.1
    c.args.layer.sets.keys c.args.layer.standings.items c.args.below.now.sets.keys c.args.below.now.standings.items may (search_data c.loop-number.search)
    c.loop-number.number c.loop-number.standings.items so within c.in-Some.place
    (placed c.loop-number.standings.items c.loop-number.number c.in-Some.place c.index.result.now here c.index.ensures c.in-Some.is)).set)
    (path_lies kind film (search_data c.args.search.now) c.requires.0 c.requires.1
    c.args.layer.sets.keys c.args.layer.standings.items c.args.below.now.sets.keys c.args.below.now.standings.items may (search_data c.loop-number.search)
    c.loop-number.number c.loop-number.standings.items so within)

pub loop-number-preserved : goal.loop-number-preserved
loop-number-preserved g c =
    let kind : Kind = g.A.Answers.kind in
    let film : FilmData = g.A.Answers.film in
    let before : SearchData = search_data c.args.search.now in
    let number : ℕ = c.loop-number.number in
    let standings : List Standing = c.loop-number.standings.items in
    let here : number < length standings = omega (arith, c.loop-number-test.true, c.len-number-end.ensures, c.loop-number.invariant.count) in
    elim c.match-index.branch [
      | in-Some w ↦ (let value : Standing = record { value = w.raise_line-value.result; place = Some w.in-Some.place } in
          let items : c.match-index.standings.items ≡ set standings number value = ap (λ v. v.items) w.standings-is in
          record {
            found = ap (λ s. s.found.entries) w.search-is ∙ w.raise_line-value.ensures.found ∙ c.loop-number.invariant.found;
            count = ap length items ∙ length-set standings number value ∙ c.loop-number.invariant.count;
            raised = λ limit paths may.
                (let so = c.loop-number.invariant.raised limit paths may in
                subst (λ (s : SearchData). AreRaised (rules_of kind film) before s limit (number + 1) paths c.args.layer.standings.items c.match-index.standings.items)
                (sym (ap search_data w.search-is))
                (raised_opened kind film before limit paths c.args.layer.sets.keys c.args.layer.standings.items c.args.below.now.sets.keys
                c.args.below.now.standings.items may (search_data c.loop-number.search) number standings so (omega (arith, here, so.count)) w.in-Some.place
                w.raise_line-value.result (search_data w.raise_line-value.new.search)
                (placed standings number w.in-Some.place c.index.result.now here c.index.ensures w.in-Some.is) w.raise_line-value.ensures.raised
                c.match-index.standings.items value refl items));
          })
      | in_default w ↦ record {
        found = ap (λ s. s.found.entries) w.search-is ∙ c.loop-number.invariant.found;
        count = ap (λ v. length v.items) w.standings-is ∙ c.loop-number.invariant.count;
        raised = λ limit paths may.
            (let so = c.loop-number.invariant.raised limit paths may in
            subst (λ (s : SearchData). AreRaised (rules_of kind film) before s limit (number + 1) paths c.args.layer.standings.items c.match-index.standings.items)
            (sym (ap search_data w.search-is))
            (subst (λ (xs : List Standing). AreRaised (rules_of kind film) before (search_data c.loop-number.search) limit (number + 1) paths
            c.args.layer.standings.items xs) (sym (ap (λ v. v.items) w.standings-is))
            (raised_closed kind film before limit paths c.args.layer.sets.keys c.args.layer.standings.items c.args.below.now.sets.keys
            c.args.below.now.standings.items may (search_data c.loop-number.search) number standings so (omega (arith, here, so.count))
            (unplaced standings number c.index.result.now here c.index.ensures w.in_default.is))));
      }
    ]

pub returns-clause-raised : goal.returns-clause-raised
returns-clause-raised g c = λ limit paths may.
    raised_all g.A.Answers.kind g.A.Answers.film (search_data c.args.search.now) limit paths
    c.args.layer.sets.keys c.args.layer.standings.items c.args.below.now.sets.keys c.args.below.now.standings.items may
    (search_data c.loop-number.search) c.loop-number.number c.loop-number.standings.items (c.loop-number.invariant.raised limit paths may)
    (omega (arith, c.loop-number-test.false, c.loop-number.auto.number-end, c.len-number-end.ensures, may.count))
