-- Paths with one scene more, and a path among others.
use Rattle.std.specs.Prelude.{◌==◌, nat_lt, if◌then◌else◌, List, [], ◌∷◌, map}
use Rattle.strip_mask.specs.Set.{members}
use Rattle.strip_model.specs.Film.{FilmData}
use Rattle.strip_film.specs.Path.{PathData, extended}
use Rattle.strip_rule.specs.Rule.{open_firsts}

-- the open paths that go on from a path with one scene more, by rising scenes
abbrev pub paths_after : FilmData → PathData → List PathData
paths_after film path = map (extended film path) (members (open_firsts film path.rest))

-- the paths and another one: it stands behind them where none leaves what it leaves; else it takes that one's place
-- where it pays less
abbrev pub with_path : List PathData → PathData → List PathData
with_path [] path = path ∷ []
with_path (other ∷ paths) path =
    if other.rest == path.rest then
    (if nat_lt path.paid other.paid then path else other) ∷ paths else other ∷ with_path paths path
