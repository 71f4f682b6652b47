use Rattle.std.proofs.Common.{◌≡◌, ℕ, arith, ap, ◌∙◌}
use Rattle.strip_mask.specs.Set.{members}
use Rattle.strip_model.specs.Film.{FilmData}
use Rattle.strip_bound.specs.Bounds.{bound}
use Rattle.strip_rule.specs.Rule.{open_firsts}
use Rattle.strip_rule.proofs.Firsts.{first_there}
use Rattle.strip_lines.specs.Lines.{least_step, rules_of}
use Rattle.strip_check.specs.Reasons.{by_lines}
use Rattle.strip_check.proofs.Known.{justified_alone}
use Rattle.strip_check.proofs.justify.justified.Goals as goal

pub returns-then-is_empty : goal.returns-then-is_empty
returns-then-is_empty g c =
    let film : FilmData = g.B.Bounds.film in
    let none : open_firsts film c.args.q.0 ≡ 0 = rw (c.open_firsts-firsts.ensures.open, c.film-film.ensures) at (c.is_empty.ensures.0 c.if-is_empty.true) in
    omega (arith, c.from-bound.ensures, c.whole.ensures, justified_alone (rules_of g.B.Bounds.kind film) c.args.best.now.lines c.args.q.0 0 none)

pub least_step-requires-clause-firsts : goal.least_step-requires-clause-firsts
least_step-requires-clause-firsts g c = λ scene member.
    (first_there g.B.Bounds.film c.args.q.0 scene (rw (c.open_firsts-firsts.ensures.open, c.film-film.ensures) at member))

pub returns : goal.returns
returns g c =
    let film : FilmData = g.B.Bounds.film in
    let q : ℕ = c.args.q.0 in
    let firsts : c.open_firsts-firsts.result.0 ≡ open_firsts film q = c.open_firsts-firsts.ensures.open ∙ ap (λ (made : FilmData). open_firsts made q) c.film-film.ensures in
    let lined = by_lines (rules_of g.B.Bounds.kind film) c.args.best.now.lines in
    let least : c.least_step.result ≡ least_step lined q (bound g.B.Bounds.kind film q) (members (open_firsts film q))
    = c.least_step.ensures (bound g.B.Bounds.kind film q) ∙ ap (λ (set : ℕ). least_step lined q (bound g.B.Bounds.kind film q) (members set)) firsts in
    omega (arith, c.max.ensures, c.from-bound.ensures, c.whole.ensures, least)
