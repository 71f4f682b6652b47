use Rattle.std.proofs.Common.{◌≡◌, arith, sym, subst}
use Rattle.strip_model.specs.Film.{FilmData}
use Rattle.strip_film.specs.Film.{IsFilm}
use Rattle.strip_film.specs.Path.{IsComplete}
use Rattle.strip_film.specs.Shown.{path_data}
use Rattle.strip_least.proofs.Opened.{opens}
use Rattle.strip_least.proofs.least.Least.new.Goals as goal

pub of_words-requires : goal.of_words-requires
of_words-requires c =
    let same : c.in_ok-copy.field-0 ≡ c.args.film.now = c.in_ok-copy.ensures in
    let complete : IsComplete c.in_ok-copy.field-0 (path_data c.args.start.now)
    = subst (λ (film : FilmData). IsComplete film (path_data c.args.start.now)) (sym same) c.requires in
    opens (record { film = c.in_ok-copy.field-0; start = c.paid-paid.result; parts = c.args.parts }) (subst IsFilm (sym same) c.keeps_limits.ensures)
    (path_data c.args.start.now, complete, sym c.paid-paid.ensures) (omega (arith, c.ranges.parts))
