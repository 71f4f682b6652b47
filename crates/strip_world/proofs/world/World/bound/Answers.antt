use Rattle.std.proofs.Common.{◌∙◌, sym, ap, subst}
use Rattle.strip_model.specs.declared.kind.Kind.{Kind}
use Rattle.strip_model.specs.Film.{FilmData}
use Rattle.strip_film.specs.Film.{LiesIn}
use Rattle.strip_bound.specs.Bounds.{bound}
use Rattle.strip_world.proofs.world.World.bound.Goals as goal

pub whole-requires : goal.whole-requires
whole-requires g c = record {
  lies = subst (λ (f : FilmData). LiesIn f c.args.set.0) c.requires.search.0 c.requires.lies;
}

pub returns : goal.returns
returns g c =
    c.whole.ensures ∙ ap (λ (f : FilmData). bound g.B.Bounds.kind f c.args.set.0) (sym c.requires.search.0)
    ∙ ap (λ (k : Kind). bound k c.args.self.now.search.film c.args.set.0) (sym c.requires.search.1)
