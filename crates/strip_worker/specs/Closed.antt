-- How a search ends, whoever did it.
use Rattle.std.specs.Prelude.{◌≡◌, ℕ, suc, ◌<◌, ◌≤◌, Bool, true, false, List, length, IsSome}
use Rattle.std.specs.Option.{unwrap_or}
use Rattle.strip_model.specs.declared.kind.Kind.{Kind}
use Rattle.strip_model.specs.Film.{FilmData}
use Rattle.strip_film.specs.declared.shared.Line.{Line}
use Rattle.strip_film.specs.Film.{all_scenes}
use Rattle.strip_film.specs.Path.{IsComplete, PathData}
use Rattle.strip_lines.specs.Lines.{AreJustified, GrowTo, ahead, known}
use Rattle.strip_lines.specs.Parts.{AreCounted}
use Rattle.strip_hand.specs.Hand.{HandData, IsHand, IsSearchOf, RecordData, no_path_yet}
use Rattle.strip_hand.specs.Search.{depth_of, search_rules}
use Rattle.strip_worker.specs.Team.{IsCut}

-- the hand's record of a part, or that of a part in which nothing was enlisted
abbrev pub record_in : HandData → ℕ → RecordData
record_in hand part = unwrap_or (hand.records part) no_path_yet

-- the lines are counted by the hand's records
abbrev pub AreCountedBy : HandData → List Line → Type 0
AreCountedBy hand lines =
    AreCounted (search_rules hand.search) hand.search.start (depth_of hand.search) hand.search.tasks lines
    (λ part. (record_in hand part).last) (λ part. (record_in hand part).number)

-- the hand has a record of each part
abbrev pub HasAll : HandData → Type 0
HasAll hand = (part : ℕ) → part < suc (length hand.search.tasks) → IsSome (hand.records part)

-- what is known of all scenes by these lines
abbrev pub known_of_all : HandData → List Line → ℕ
known_of_all hand lines = known (search_rules hand.search) lines (all_scenes hand.search.film)

-- the front was closed up, with a number that is at most what is known of all scenes; it reaches the least cost told,
-- or, where the budget was spent and the search cut short, the look-ahead
pub record IsClosed (kind : Kind) (film : FilmData) (hand : HandData) (spent : Bool) (number : ℕ) : Type 0 where
  pub search : IsSearchOf kind film hand
  pub limits : IsHand hand
  pub most : number ≤ known_of_all hand hand.lines
  pub whole : spent ≡ false → hand.told ≤ number
  pub cut : spent ≡ true → IsCut hand
  pub reaches : spent ≡ true → ahead (search_rules hand.search) (all_scenes hand.search.film) ≤ number

-- what a search leaves beside a hand that has the records of all its workers: a complete path, no dearer than what the
-- hand was told; and the lines, which are those that the hand knows, some perhaps higher, and perhaps more, justified,
-- at most as many as there may be, and counted by its records
pub record IsSettled (hand : HandData) (best : PathData) (lines : List Line) : Type 0 where
  pub complete : IsComplete hand.search.film best
  pub least : best.paid ≤ hand.told
  pub grow : GrowTo hand.lines lines
  pub justified : AreJustified (search_rules hand.search) lines
  pub few : length lines ≤ hand.search.nodes
  pub counts : AreCountedBy hand lines
