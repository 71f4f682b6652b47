use Rattle.std.proofs.Common.{ap, refl, ◌∙◌}
use Rattle.std.proofs.lemmas.Bool.{false≢true}
use Rattle.strip_film.specs.Film.{all_scenes}
use Rattle.test_workers.proofs.Front.{may_raise_whole}
use Rattle.test_workers.proofs.book.raise_whole.Goals as goal

pub raise-requires-clause-may : goal.raise-requires-clause-may
raise-requires-clause-may g c =
    may_raise_whole g.B.Bounds.kind g.B.Bounds.film c.args.pass.now.seat.me.0 c.requires.goes_by c.args.line c.args.number c.requires.there c.requires.made
    (λ zero. false≢true (c.if-is_empty.ensures.1 (c.all.ensures ∙ ap all_scenes c.film.ensures ∙ zero)))
    (c.if-not-each_first_reaches.ensures refl)
