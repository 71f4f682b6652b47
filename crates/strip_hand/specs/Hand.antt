-- What a worker knows of a search, was told, and did.
use Rattle.std.specs.Prelude.{◌≡◌, ℕ, suc, ◌+◌, ◌<◌, ◌≤◌, Bool, true, Option, Some, None, List, length, ⊤}
use Rattle.strip_model.specs.declared.kind.Kind.{Kind}
use Rattle.strip_model.specs.Film.{FilmData}
use Rattle.strip_film.specs.declared.shared.Known.{Known}
use Rattle.strip_film.specs.declared.shared.Line.{Line}
use Rattle.strip_film.specs.declared.shared.Probe.{Probe}
use Rattle.strip_film.specs.declared.shared.Probe.TheVariants.{Hit, Miss}
use Rattle.strip_film.specs.Film.{IsFilm}
use Rattle.strip_film.specs.Path.{PathData}
use Rattle.strip_lines.specs.Lines.{AreJustified, line_at}
use Rattle.strip_lines.specs.Parts.{IsShare, lies_in}
use Rattle.strip_hand.specs.Search.{AreStarts, GoesBy, SearchData, depth_of, search_rules}

-- a probe of the table: the set that was asked for, and the answer
pub record ProbeData : Type 0 where
  pub set : ℕ
  pub answer : Probe

-- of a part that was claimed: the last path that was enlisted in it, and how many were
pub record RecordData : Type 0 where
  pub last : Option PathData
  pub number : ℕ

abbrev pub no_path_yet : RecordData
no_path_yet = record { last = None; number = 0 }

-- a hand: what the search goes by; the least cost that it was last told; the lines that it knows, by their numbers,
-- with bounds that they have at least; its records of the parts that it claimed, where part 0 is the front and part
-- 1 the first task; its last probe and its last note; how often it was refused memory; and whether it found that no
-- part is left
pub record HandData : Type 0 where
  pub search : SearchData
  pub told : ℕ
  pub lines : List Line
  pub records : ℕ → Option RecordData
  pub probe : Option ProbeData
  pub note : Option Known
  pub refusals : ℕ
  pub ended : Bool

-- the hand is one of a search over this film with static bounds of this kind
abbrev pub IsSearchOf : Kind → FilmData → HandData → Type 0
IsSearchOf kind film hand = GoesBy kind film hand.search

-- a line of this number and set, whose bound is at least as great, stands in the list
pub record Knows (lines : List Line) (known : Known) : Type 0 where
  pub there : known.line < length lines
  pub set : (line_at lines known.line).set ≡ known.set
  pub as_great : known.bound ≤ (line_at lines known.line).bound

-- the answer lets a path through: nothing was found, or a bound with which the path is below the least cost last told
abbrev pub Lets : Probe → PathData → ℕ → Type 0
Lets Miss path told = ⊤
Lets (Hit known) path told = path.paid + known.bound < told

-- the last probe was of what remains after the path, and lets it through
abbrev pub LetsThrough : Option ProbeData → PathData → ℕ → Type 0
LetsThrough None path told = ⊥
LetsThrough (Some probe) path told = (probe.set ≡ path.rest) × Lets probe.answer path told

-- a record of a part: its last path lies in the part, and no more paths were enlisted than candidates of the part
-- come up to it
pub record IsRecord (search : SearchData) (part : ℕ) (entry : RecordData) : Type 0 where
  pub known : part < suc (length search.tasks)
  pub lies : (path : PathData) → entry.last ≡ Some path → lies_in (depth_of search) search.tasks part path ≡ true
  pub share : IsShare (search_rules search) search.start (depth_of search) search.tasks part entry.last entry.number

-- what holds of every hand
pub record IsHand (hand : HandData) : Type 0 where
  pub film : IsFilm hand.search.film
  pub tasks : AreStarts hand.search
  pub told : hand.told ≤ hand.search.start
  pub few : length hand.lines ≤ hand.search.nodes
  pub lines : AreJustified (search_rules hand.search) hand.lines
  pub records : (part : ℕ) (entry : RecordData) → hand.records part ≡ Some entry → IsRecord hand.search part entry
