-- Each static bound is at most the cost of finishing.
use Rattle.std.proofs.Common.{ℕ, ◌≤◌, arith}
use Rattle.strip_model.specs.declared.kind.Kind.{Kind}
use Rattle.strip_model.specs.declared.kind.Kind.TheVariants.{Plain, Pairs, Groups, Arrivals}
use Rattle.strip_model.specs.Film.{FilmData}
use Rattle.strip_film.specs.Film.{IsFilm, LiesIn}
use Rattle.strip_film.specs.Finish.{IsAtMostFinish, steps_cost}
use Rattle.strip_film.proofs.Lists.{AllOnce-from_ready}
use Rattle.strip_bound.specs.Bounds.{bound, groups_of}
use Rattle.strip_bound.proofs.Tails.{groups_bound_tails}
use Rattle.strip_bound.proofs.Pieces.{pairs_at_most_groups, groups_are}
use Rattle.strip_bound.proofs.Party.{arrivals_bound_tails}

pub pairs_within_groups : (film : FilmData) (set : ℕ) → IsFilm film → bound Pairs film set ≤ bound Groups film set
pairs_within_groups film set is = omega (arith, pairs_at_most_groups film set is)

groups_finish : (film : FilmData) (set : ℕ) → IsFilm film → LiesIn film set → IsAtMostFinish film set (bound Groups film set)
groups_finish film set is lies scenes each =
    groups_bound_tails film is set (groups_of film set) scenes lies (groups_are film set is) (AllOnce-from_ready film set scenes each)

pub bound_finishes : (kind : Kind) (film : FilmData) (set : ℕ) → IsFilm film → LiesIn film set → IsAtMostFinish film set (bound kind film set)
bound_finishes Plain film set is lies scenes each =
    let most : bound Groups film set ≤ steps_cost film set scenes = groups_finish film set is lies scenes each in
    omega (arith, most)
bound_finishes Pairs film set is lies scenes each =
    let most : bound Groups film set ≤ steps_cost film set scenes = groups_finish film set is lies scenes each in
    let pairs : bound Pairs film set ≤ bound Groups film set = pairs_within_groups film set is in
    omega (arith, most, pairs)
bound_finishes Groups film set is lies scenes each = groups_finish film set is lies scenes each
bound_finishes Arrivals film set is lies scenes each = arrivals_bound_tails film set is lies scenes (AllOnce-from_ready film set scenes each)
