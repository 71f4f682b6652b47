use Rattle.std.proofs.Common.{◌≡◌, ◌∙◌, ◌≤◌, ℕ, Some, inl, inr, ap, subst, sym, arith}
use Rattle.std.specs.List.{position}
use Rattle.std.proofs.lemmas.Bool.{leb-true}
use Rattle.strip_film.specs.Shown.{path_data}
use Rattle.strip_lines.specs.Lines.{known, line_at, rules_of}
use Rattle.strip_lines.proofs.Grown.{known-line, known-static}
use Rattle.strip_layers.proofs.Sets.{found_set, has_set}
use Rattle.strip_layers.proofs.state.Search.ask_for.Goals as goal

pub returns-in-Some : goal.returns-in-Some
returns-in-Some c = λ kind film are.
    let rest : ℕ = (path_data c.args.path.now).rest in
    let lines = c.args.self.now.sheet.lines.items in
    let found : position (has_set rest) lines ≡ Some c.in-Some.place
    = subst (λ (q : ℕ). position (has_set q) lines ≡ Some c.in-Some.place) c.rest-set.ensures (sym c.place_of.ensures ∙ c.in-Some.is) in
    let some = found_set rest c.in-Some.place lines found in
    record {
      set = c.rest-set.ensures;
      need = omega (arith, c.saturating_sub-need.ensures, c.paid.ensures);
      most = λ _. (let line : (line_at lines c.in-Some.place).bound ≤ known (rules_of kind film) lines rest
          = subst (λ (q : ℕ). (line_at lines c.in-Some.place).bound ≤ known (rules_of kind film) lines q) some.1
          (known-line (rules_of kind film) lines c.in-Some.place some.0) in
          omega (arith, line, c.bound_at.ensures));
      reaches = λ _. inr (c.in-Some.place, record { there = some.0; set = some.1 });
    }

pub returns-in-None : goal.returns-in-None
returns-in-None c = λ kind film are.
    let rest : ℕ = (path_data c.args.path.now).rest in
    let lines = c.args.self.now.sheet.lines.items in
    record {
      set = c.rest-set.ensures;
      need = omega (arith, c.saturating_sub-need.ensures, c.paid.ensures);
      most = λ _. omega (arith, c.found_of-value.ensures kind film are, ap ((rules_of kind film).bound) c.rest-set.ensures, known-static (rules_of kind film) lines rest);
      reaches = λ enough. inl (leb-true c.saturating_sub-need.result c.found_of-value.result enough);
    }
