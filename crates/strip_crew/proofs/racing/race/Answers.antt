use Rattle.std.proofs.Common.{◌≡◌, ◌*◌, ◌≤◌, length, refl, ap, ◌∙◌, subst, arith}
use Rattle.strip_model.specs.declared.kind.Kind.{Kind}
use Rattle.strip_model.specs.Film.{FilmData}
use Rattle.strip_film.specs.Film.{IsFilm}
use Rattle.strip_film.specs.Path.{PathData}
use Rattle.strip_film.specs.Shown.{path_data}
use Rattle.strip_lines.specs.Lines.{rules_of}
use Rattle.strip_lines.specs.Paths.{factorial, candidate_count, is_candidate}
use Rattle.strip_lines.specs.Ended.{ended_data}
use Rattle.strip_crew.proofs.Shut.{ended_within, where_ended}
use Rattle.strip_crew.proofs.racing.race.Goals as goal

pub returns : goal.returns
returns g c =
    let kind : Kind = g.B.Bounds.kind in
    let film : FilmData = g.B.Bounds.film in
    let start : PathData = path_data c.args.start.now in
    let is_film : IsFilm film = subst IsFilm c.film.ensures c.keeps_limits.ensures in
    let classes : c.scenes-scenes.result ≡ length film.casts = c.scenes-scenes.ensures ∙ ap (λ (f : FilmData). length f.casts) c.film-2.ensures in
    let orders : candidate_count (rules_of kind film) start.paid ≤ 2 * factorial c.scenes-scenes.result
    = omega (
      arith,
      c.paths_are_few.ensures.most film (is_candidate (rules_of kind film) start.paid) is_film,
      c.paths_are_few.ensures.orders (length film.casts),
      ap factorial classes,
    ) in
    record {
      ended = where_ended c.in_race.result
          (λ ended from. ended_within kind film start c.args.race.now.limits.nodes c.room_for-room.result (factorial c.scenes-scenes.result) (ended_data ended)
          c.room_for-room.ensures.within c.room_for-room.ensures.enough orders (from start refl))
          (c.in_race.ensures.ended start.paid c.room_for-room.result c.in_ok-opening.ensures);
    }
