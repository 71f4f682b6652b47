use Rattle.std.proofs.Common.{◌≡◌, ℕ, ◌+◌, List, None, length, true, sym, subst, arith, ◌∙◌}
use Rattle.std.proofs.lemmas.List.{get_or_default}
use Rattle.std.proofs.lemmas.Bool.{eq-eqb, eqb-true, ne_eqb}
use Rattle.strip_mask.specs.Set.{minus}
use Rattle.strip_mask.proofs.Below.{lies_by_minus}
use Rattle.strip_film.specs.declared.shared.Line.{Line}
use Rattle.strip_film.specs.Film.{LiesIn, all_scenes}
use Rattle.strip_text.specs.Checks.{below, first_fault}
use Rattle.strip_check.specs.Reasons.{set_check}
use Rattle.strip_lines.specs.Lines.{line_at, no_line}
use Rattle.strip_rule.specs.Rule.{is_part}
use Rattle.strip_check.specs.declared.verdict.Reason.TheVariants.{BadSet}
use Rattle.strip_check.proofs.Places.{each_holds, place_fails, place_holds}
use Rattle.strip_check.proofs.proof.against_sets.Goals as goal

pub returns-then-not-is_empty-clause-first : goal.returns-then-not-is_empty-clause-first
returns-then-not-is_empty-clause-first c =
    let film = c.args.film.now in
    let lines = c.args.lines.now in
    let place = c.loop-place.place in
    let left = rw c.all.ensures at c.minus.ensures in
    sym (place_fails (λ (k : ℕ). is_part (line_at lines k).set (all_scenes film)) (λ (k : ℕ). BadSet (k + 1)) place (length lines) c.loop-place-test.true c.loop-place.invariant
    (ne_eqb (minus (line_at lines place).set (all_scenes film)) 0
    (λ none. (let empty : c.is_empty.result ≡ true = c.is_empty.ensures.1 (left ∙ none) in
    let some = c.if-not-is_empty.true in
    cc))))

pub loop-place-preserved : goal.loop-place-preserved
loop-place-preserved c =
    let film = c.args.film.now in
    let lines = c.args.lines.now in
    let place = c.loop-place.place in
    let left = rw c.all.ensures at c.minus.ensures in
    place_holds (λ (k : ℕ). is_part (line_at lines k).set (all_scenes film)) (λ (k : ℕ). BadSet (k + 1)) place c.loop-place.invariant
    (eq-eqb (minus (line_at lines place).set (all_scenes film)) 0 (sym left ∙ c.is_empty.ensures.0 c.if-not-is_empty.false))

pub returns-clause-lie : goal.returns-clause-lie
returns-clause-lie c = λ _ place default within.
    (let film = c.args.film.now in
    let lines : List Line = c.args.lines.now in
    let all : c.loop-place.place ≡ length lines = omega (arith, c.loop-place.auto.place-end, c.loop-place-test.false) in
    let part : is_part (line_at lines place).set (all_scenes film) ≡ true
    = each_holds (λ (k : ℕ). is_part (line_at lines k).set (all_scenes film)) (λ (k : ℕ). BadSet (k + 1)) (length lines)
    (subst (λ (n : ℕ). first_fault (below n (set_check film lines)) ≡ None) all c.loop-place.invariant) place within in
    subst (λ (line : Line). LiesIn film line.set) (get_or_default lines place no_line default within)
    ((lies_by_minus (length film.casts) (line_at lines place).set).0 (eqb-true (minus (line_at lines place).set (all_scenes film)) 0 part)))
