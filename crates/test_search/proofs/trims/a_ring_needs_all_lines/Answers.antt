use Rattle.std.proofs.Common.{sym, subst}
use Rattle.strip_model.specs.declared.kind.Kind.TheVariants.{Plain}
use Rattle.strip_model.specs.Film.{FilmData}
use Rattle.strip_lines.specs.Lines.{AreJustified, rules_of}
use Rattle.test_search.specs.Worked.{ring_lines}
use Rattle.test_search.proofs.Justified.{ring_justified}
use Rattle.test_search.proofs.trims.a_ring_needs_all_lines.Goals as goal

pub trimmed-requires : goal.trimmed-requires
trimmed-requires g c = subst (λ (film : FilmData). AreJustified (rules_of Plain film) ring_lines) (sym c.in_ok-film.ensures) ring_justified
