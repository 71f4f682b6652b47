use Rattle.std.proofs.Common.{◌≡◌, ◌↔◌, true, slice_index, subst}
use Rattle.strip_mask.specs.Set.{has}
use Rattle.strip_model.specs.Film.{FilmData}
use Rattle.strip_model.specs.Pairs.{Precedes}
use Rattle.strip_film.proofs.film.Film.before.Goals as goal

pub returns : goal.returns
returns c = λ first.
    subst (λ (film : FilmData). (has (slice_index c.self.inside.before c.args.scene) first ≡ true) ↔ Precedes film.pairs first c.args.scene)
    c.self.view_is (c.self.invariant.2.each c.args.scene first)
