use Rattle.std.proofs.Common.{sym, subst}
use Rattle.strip_model.specs.declared.kind.Kind.TheVariants.{Pairs}
use Rattle.strip_model.specs.Film.{FilmData}
use Rattle.strip_lines.specs.Lines.{AreJustified, rules_of}
use Rattle.test_search.specs.Worked.{triangle_lines}
use Rattle.test_search.proofs.Justified.{triangle_justified}
use Rattle.test_search.proofs.trims.a_triangle_needs_one_line.Goals as goal

pub trimmed-requires : goal.trimmed-requires
trimmed-requires g c = subst (λ (film : FilmData). AreJustified (rules_of Pairs film) triangle_lines) (sym c.in_ok-film.ensures) triangle_justified
