use Rattle.std.proofs.Common.{ap, refl, ◌∙◌}
use Rattle.std.proofs.lemmas.Bool.{false≢true}
use Rattle.strip_film.specs.Film.{all_scenes}
use Rattle.test_workers.proofs.Front.{whole_justified}
use Rattle.test_workers.proofs.hubs.raise_to.Goals as goal

pub raise-requires-clause-may : goal.raise-requires-clause-may
raise-requires-clause-may g c = record {
  there = c.requires.made.there;
  justified = whole_justified g.B.Bounds.kind g.B.Bounds.film (g.H.Hand.shows c.args.hand.now).search (g.H.Hand.shows c.args.hand.now).lines
      c.requires.goes_by c.args.line c.args.bound c.requires.made.set
      (λ zero. false≢true (c.if-is_empty.ensures.1 (c.all.ensures ∙ ap all_scenes c.film.ensures ∙ zero)))
      (c.if-not-each_first_reaches.ensures refl);
}
