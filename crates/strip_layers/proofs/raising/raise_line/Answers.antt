use Rattle.std.proofs.Common.{ℕ, subst, sym}
use Rattle.strip_model.specs.Film.{FilmData}
use Rattle.strip_film.specs.Film.{LiesIn}
use Rattle.strip_layers.specs.Raised.{IsLeastOver}
use Rattle.strip_layers.proofs.raising.raise_line.Goals as goal

pub least_over-least-requires : goal.least_over-least-requires
least_over-least-requires g c =
    subst (λ (film : FilmData). LiesIn film c.set_at-set.result.0) (sym c.film.ensures)
    (subst (LiesIn g.A.Answers.film) (sym c.set_at-set.ensures) c.requires.lies)

pub returns-clause-raised : goal.returns-clause-raised
returns-clause-raised g c = record {
  least = c.least_over-least.result;
  is_least = subst (λ (q : ℕ). IsLeastOver g.A.Answers.film c.args.below.now.sets.keys c.args.below.now.standings.items q c.least_over-least.result)
      c.set_at-set.ensures
      (subst (λ (film : FilmData). IsLeastOver film c.args.below.now.sets.keys c.args.below.now.standings.items c.set_at-set.result.0 c.least_over-least.result)
      c.film.ensures c.least_over-least.ensures);
  search = c.raise.ensures.lines;
  answer = c.raise.ensures.bound;
}
