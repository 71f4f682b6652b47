-- What a found bound says: it is at most what is known of its set, and at most the cost of finishing it.
use Rattle.std.proofs.Common.{◌≡◌, ℕ, ◌≤◌, Option, Some, None, List, refl, subst, arith}
use Rattle.strip_model.specs.declared.kind.Kind.{Kind}
use Rattle.strip_model.specs.Film.{FilmData}
use Rattle.strip_film.specs.declared.shared.Known.{Known}
use Rattle.strip_film.specs.declared.shared.Line.{Line}
use Rattle.strip_film.specs.Film.{IsFilm, LiesIn}
use Rattle.strip_film.specs.Finish.{IsAtMostFinish, steps_cost}
use Rattle.strip_film.specs.Path.{PathData}
use Rattle.strip_film.specs.Rules.{BeginLeast, BoundsFinish, FirstsAreReady, Rules}
use Rattle.strip_bound.proofs.Finish.{bound_finishes}
use Rattle.strip_rule.proofs.Open.{open_begins_least, open_is}
use Rattle.strip_lines.specs.Lines.{known, line_at, rules_of}
use Rattle.strip_lines.proofs.Grown.{known-line, known-static}
use Rattle.strip_lines.proofs.Justified.{known_is_true}
use Rattle.strip_hand.specs.Search.{search_rules}
use Rattle.strip_hand.specs.Hand.{HandData, IsHand, Knows}
use Rattle.strip_walk.specs.Found.{known_of}

-- ---- the rules of a film and a kind

pub bounds_finish : (kind : Kind) (film : FilmData) → IsFilm film → BoundsFinish (rules_of kind film)
bounds_finish kind film is set lies = bound_finishes kind film set is lies

pub begin_least : (kind : Kind) (film : FilmData) → IsFilm film → BeginLeast (rules_of kind film)
begin_least kind film is set lies some = open_begins_least film is set lies some

pub firsts_are_ready : (kind : Kind) (film : FilmData) → IsFilm film → FirstsAreReady (rules_of kind film)
firsts_are_ready kind film is set scene lies member = (open_is film set scene member).0

-- ---- known lines

-- a known line's bound is at most what is known of its set
pub knows_known : (rules : Rules) (lines : List Line) (one : Known) → Knows lines one → one.bound ≤ known rules lines one.set
knows_known rules lines one knows =
    let there : (line_at lines one.line).bound ≤ known rules lines one.set
    = subst (λ (q : ℕ). (line_at lines one.line).bound ≤ known rules lines q) knows.set (known-line rules lines one.line knows.there) in
    omega (arith, there, knows.as_great)

-- so is a bound that is a known line's, or at most the static one
pub bound_known : (rules : Rules) (lines : List Line) (path : PathData) (line : Option ℕ) (bound : ℕ)
    → ((number : ℕ) → line ≡ Some number → Knows lines (known_of path number bound))
    → (line ≡ None → bound ≤ rules.bound path.rest) → bound ≤ known rules lines path.rest
bound_known rules lines path (Some number) bound some none = knows_known rules lines (known_of path number bound) (some number refl)
bound_known rules lines path None bound some none = omega (arith, none refl, known-static rules lines path.rest)

-- what a hand knows of a set is at most the cost of finishing it
pub known_finishes : (hand : HandData) → IsHand hand → (set : ℕ) → LiesIn hand.search.film set
    → IsAtMostFinish hand.search.film set (known (search_rules hand.search) hand.lines set)
known_finishes hand is set lies =
    known_is_true (search_rules hand.search) hand.lines is.film (bounds_finish hand.search.kind hand.search.film is.film)
    (begin_least hand.search.kind hand.search.film is.film) is.lines set lies

pub finish_below : (film : FilmData) (set less most : ℕ) → less ≤ most → IsAtMostFinish film set most → IsAtMostFinish film set less
finish_below film set less most below finish scenes each = (let whole : most ≤ steps_cost film set scenes = finish scenes each in omega (arith, below, whole))
