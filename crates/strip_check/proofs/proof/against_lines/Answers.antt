use Rattle.std.proofs.Common.{◌≡◌, ℕ, ◌+◌, leb, length, Some, sym, ap, ◌∙◌}
use Rattle.strip_film.specs.declared.shared.Line.{Line}
use Rattle.strip_lines.specs.Lines.{line_at, rules_of}
use Rattle.std.proofs.Common.{List}
use Rattle.strip_check.specs.Reasons.{justified}
use Rattle.strip_check.specs.declared.verdict.Reason.TheVariants.{Unjustified}
use Rattle.strip_check.proofs.Places.{place_fails, place_holds}
use Rattle.strip_check.proofs.proof.against_lines.Goals as goal

pub returns-then-not-is_justified : goal.returns-then-not-is_justified
returns-then-not-is_justified g c = record {
  first =
      let rules = rules_of g.B.Bounds.kind g.B.Bounds.film in
      let lines : List Line = c.args.lines.now in
      let place = c.loop-place.place in
      let set : ℕ = (line_at lines place).set in
      let value : c.justified.result ≡ justified rules lines set
      = c.justified.ensures ∙ ap (λ (list : List Line). justified rules list set) c.requires.best in
      ap (λ (n : ℕ). Some (Unjustified (place + 1) n)) value
      ∙ sym (place_fails (λ (k : ℕ). leb (line_at lines k).bound (justified rules lines (line_at lines k).set))
      (λ (k : ℕ). Unjustified (k + 1) (justified rules lines (line_at lines k).set)) place (length lines) c.loop-place-test.true c.loop-place.invariant.pass
      (ap (λ (list : List Line). leb (line_at lines place).bound (justified rules list set)) (sym c.requires.best) ∙ sym c.is_justified.ensures.justified ∙ c.if-not-is_justified.true));
}

pub loop-place-preserved : goal.loop-place-preserved
loop-place-preserved g c =
    let rules = rules_of g.B.Bounds.kind g.B.Bounds.film in
    let lines : List Line = c.args.lines.now in
    let place = c.loop-place.place in
    let set : ℕ = (line_at lines place).set in
    record {
      pass = place_holds (λ (k : ℕ). leb (line_at lines k).bound (justified rules lines (line_at lines k).set))
          (λ (k : ℕ). Unjustified (k + 1) (justified rules lines (line_at lines k).set)) place c.loop-place.invariant.pass
          (ap (λ (list : List Line). leb (line_at lines place).bound (justified rules list set)) (sym c.requires.best) ∙ sym c.is_justified.ensures.justified ∙ c.if-not-is_justified.false);
    }
