use Rattle.std.proofs.Common.{◌≡◌, ◌↔◌, ◌≤◌, ◌+◌, ℕ, All, true, not, inr, refl, sym, ap, ◌∙◌, subst}
use Rattle.strip_mask.specs.Set.{members, without}
use Rattle.strip_model.specs.Film.{FilmData}
use Rattle.strip_film.specs.Film.{IsFilm}
use Rattle.strip_film.specs.Shoot.{step_cost}
use Rattle.strip_bound.specs.Bounds.{bound}
use Rattle.strip_rule.specs.Rule.{open_firsts}
use Rattle.strip_rule.proofs.Firsts.{first_there, firsts_set}
use Rattle.strip_lines.specs.Lines.{known, rules_of}
use Rattle.strip_check.proofs.Known.{justified_by_steps, no_firsts_decide, steps_decide}
use Rattle.strip_check.proofs.justify.is_by_steps.Goals as goal

pub steps_reach-requires-clause-firsts : goal.steps_reach-requires-clause-firsts
steps_reach-requires-clause-firsts g c = λ scene member.
    (first_there g.B.Bounds.film c.args.q.0 scene (rw (c.open_firsts_with-firsts.ensures, c.film-film.ensures) at member))

pub returns-then-not-is_empty-clause-enough : goal.returns-then-not-is_empty-clause-enough
returns-then-not-is_empty-clause-enough g c = λ yes.
    (let film : FilmData = g.B.Bounds.film in
    let q : ℕ = c.args.q.0 in
    let lines = c.args.best.now.lines in
    let limits : IsFilm film = subst IsFilm c.film-film.ensures c.keeps_limits.ensures in
    let firsts : c.open_firsts_with-firsts.result.0 ≡ open_firsts film q = c.open_firsts_with-firsts.ensures ∙ ap (λ (made : FilmData). open_firsts made q) c.film-film.ensures in
    justified_by_steps (rules_of g.B.Bounds.kind film) lines q c.args.bound (firsts_set film q limits c.requires.lies)
    (λ none. (let empty : c.is_empty.result ≡ true = c.is_empty.ensures.1 (firsts ∙ none) in
    let some = c.if-not-is_empty.true in
    cc))
    (subst (λ (set : ℕ). All (λ scene. c.args.bound ≤ step_cost film q scene + known (rules_of g.B.Bounds.kind film) lines (without q scene)) (members set)) firsts
    (c.steps_reach.ensures.reach.0 yes)))

pub returns-then-not-is_empty-clause-decides : goal.returns-then-not-is_empty-clause-decides
returns-then-not-is_empty-clause-decides g c = λ short.
    (let film : FilmData = g.B.Bounds.film in
    let q : ℕ = c.args.q.0 in
    let lines = c.args.best.now.lines in
    let limits : IsFilm film = subst IsFilm c.film-film.ensures c.keeps_limits.ensures in
    let firsts : c.open_firsts_with-firsts.result.0 ≡ open_firsts film q = c.open_firsts_with-firsts.ensures ∙ ap (λ (made : FilmData). open_firsts made q) c.film-film.ensures in
    steps_decide (rules_of g.B.Bounds.kind film) lines q c.args.bound (bound g.B.Bounds.kind film q) c.steps_reach.result (inr refl) short
    (firsts_set film q limits c.requires.lies)
    (λ none. (let empty : c.is_empty.result ≡ true = c.is_empty.ensures.1 (firsts ∙ none) in
    let some = c.if-not-is_empty.true in
    cc))
    (subst (λ (set : ℕ). (c.steps_reach.result ≡ true)
    ↔ All (λ scene. c.args.bound ≤ step_cost film q scene + known (rules_of g.B.Bounds.kind film) lines (without q scene)) (members set)) firsts c.steps_reach.ensures.reach))

pub returns-else-not-is_empty-clause-decides : goal.returns-else-not-is_empty-clause-decides
returns-else-not-is_empty-clause-decides g c = λ short.
    (let film : FilmData = g.B.Bounds.film in
    let q : ℕ = c.args.q.0 in
    let firsts : c.open_firsts_with-firsts.result.0 ≡ open_firsts film q = c.open_firsts_with-firsts.ensures ∙ ap (λ (made : FilmData). open_firsts made q) c.film-film.ensures in
    ap not c.if-not-is_empty.false
    ∙ no_firsts_decide (rules_of g.B.Bounds.kind film) c.args.best.now.lines q c.args.bound (bound g.B.Bounds.kind film q) (inr refl) short
    (sym firsts ∙ c.is_empty.ensures.0 c.if-not-is_empty.false))
