-- How the sets of a layer stand below a limit, and what a walk leaves.
use Rattle.std.specs.Prelude.{◌≡◌, ◌≢◌, ℕ, ◌+◌, ◌-◌, ◌<◌, ◌≤◌, ◌⊎◌, min, Bool, true, false, Option, None, Some, List, length, map, slice_index_or, All, Contains}
use Rattle.std.specs.List.{AllPairs}
use Rattle.strip_mask.specs.Set.{has, size, without}
use Rattle.strip_model.specs.declared.kind.Kind.{Kind}
use Rattle.strip_model.specs.Film.{FilmData}
use Rattle.strip_film.specs.declared.shared.Line.{Line}
use Rattle.strip_film.specs.Film.{all_scenes}
use Rattle.strip_film.specs.Path.{PathData}
use Rattle.strip_film.specs.Rules.{IsOpen, Rules}
use Rattle.strip_film.specs.Shoot.{step_cost}
use Rattle.strip_bound.specs.Bounds.{bound}
use Rattle.strip_lines.specs.Lines.{known, rules_of}
use Rattle.strip_layers.specs.declared.ask.Ask.{Ask}
use Rattle.strip_layers.specs.declared.layer.Layer.{Layer}
use Rattle.strip_layers.specs.declared.layer.Standing.{Standing}
use Rattle.strip_layers.specs.Layer.{standing_at, value_in}
use Rattle.strip_layers.specs.Search.{Extends, HasLine, IsSearch, Opens, Rises, SearchData}

-- what is asked of a path: what it leaves, and what it lacks of the limit. What is known already is what is known of
-- the set at most, and it suffices or the set has a line
pub record IsAskFor (kind : Kind) (film : FilmData) (lines : List Line) (limit : ℕ) (path : PathData) (ask : Ask) : Type 0 where
  pub set : ask.set ≡ path.rest
  pub need : ask.need ≡ limit - path.paid
  pub most : ask.is_known ≡ true → ask.value ≤ known (rules_of kind film) lines path.rest
  pub reaches : ask.is_known ≡ true → (ask.need ≤ ask.value) ⊎ ((place : ℕ) × HasLine lines path.rest place)

-- the same once it is answered: the value reaches what is needed, or is the static bound, or the set has a line
pub record IsLooked (kind : Kind) (film : FilmData) (lines : List Line) (limit : ℕ) (path : PathData) (ask : Ask) : Type 0 where
  pub set : ask.set ≡ path.rest
  pub need : ask.need ≡ limit - path.paid
  pub most : ask.value ≤ known (rules_of kind film) lines path.rest
  pub reaches : (ask.need ≤ ask.value) ⊎ ((ask.value ≡ bound kind film path.rest) ⊎ ((place : ℕ) × HasLine lines path.rest place))

-- each path of a layer, in their order
abbrev pub AreAsksFor : Kind → FilmData → List Line → ℕ → List PathData → List Ask → Type 0
AreAsksFor kind film lines limit paths asks = (length asks ≡ length paths)
    × ((place : ℕ) (p : PathData) (d : Ask) → place < length paths
    → IsAskFor kind film lines limit (slice_index_or paths place p) (slice_index_or asks place d))

abbrev pub AreLooked : Kind → FilmData → List Line → ℕ → List PathData → List Ask → Type 0
AreLooked kind film lines limit paths asks = (length asks ≡ length paths)
    × ((place : ℕ) (p : PathData) (d : Ask) → place < length paths
    → IsLooked kind film lines limit (slice_index_or paths place p) (slice_index_or asks place d))

-- a set is closed if its value reaches what is needed, and else opened
abbrev pub Stands : SearchData → ℕ → Ask → Standing → SearchData → Type 0
Stands before set ask standing after = (standing.value ≡ min ask.value ask.need)
    × (((ask.need ≤ ask.value) × (standing.place ≡ None) × (after ≡ before))
    ⊎ ((ask.value < ask.need) × Opens before (record { set = set; bound = ask.value }) standing.place after))

-- a path of the list leaves this set and pays this much at most
abbrev pub Pays : List PathData → ℕ → ℕ → Type 0
Pays paths rest most = (path : PathData) × Contains paths path × (path.rest ≡ rest) × (path.paid ≤ most)

-- the paths of a layer: open ones that leave so many scenes each, no two of them the same
pub record IsLevel (rules : Rules) (left : ℕ) (paths : List PathData) : Type 0 where
  pub is_open : All (IsOpen rules) paths
  pub sizes : All (λ path. size path.rest ≡ left) paths
  pub apart : AllPairs (λ a b. a.rest ≢ b.rest) paths

-- how the set stands that a path leaves: its value is at most what is known of it; if it is closed, the path reaches
-- the limit, unless the search is spent; and if it is open, it has a line
pub record IsStanding (rules : Rules) (search : SearchData) (limit : ℕ) (path : PathData) (standing : Standing) : Type 0 where
  pub most : standing.value ≤ known rules search.lines path.rest
  pub closed : standing.place ≡ None → search.spent ≡ false → limit ≤ path.paid + standing.value
  pub line : (place : ℕ) → standing.place ≡ Some place → HasLine search.lines path.rest place

-- each open first of an open set leads on to a path of the next layer that is no dearer
abbrev pub LeadsOn : Rules → PathData → Standing → List PathData → Type 0
LeadsOn rules path standing next =
    (place scene : ℕ) → standing.place ≡ Some place → has (rules.firsts path.rest) scene ≡ true
    → Pays next (without path.rest scene) (path.paid + step_cost rules.film path.rest scene)

-- a layer was looked at: each of its sets stands, and each open one leads on
pub record GoesOn (rules : Rules) (before : SearchData) (left limit : ℕ) (paths : List PathData) (sets : List ℕ) (standings : List Standing)
    (next : List PathData) (after : SearchData) : Type 0 where
  pub search : IsSearch rules after
  pub extends : Extends before after
  pub sets_are : sets ≡ map (λ path. path.rest) paths
  pub count : length standings ≡ length paths
  pub stand : (place : ℕ) (p : PathData) → place < length paths
      → IsStanding rules after limit (slice_index_or paths place p) (standing_at standings place)
  pub level : IsLevel rules left next
  pub lead : (place : ℕ) (p : PathData) → place < length paths
      → LeadsOn rules (slice_index_or paths place p) (standing_at standings place) next

-- a path with the value pays the limit at least, or what the best path pays
abbrev pub Reaches : SearchData → PathData → ℕ → ℕ → Type 0
Reaches search path limit value = (cost : ℕ) → cost ≤ limit → cost ≤ search.best.paid → cost ≤ path.paid + value

-- what is known of the sets of a layer; and unless the search is spent, the paths reach the limit or the best path
pub record IsLayer (rules : Rules) (search : SearchData) (limit : ℕ) (paths : List PathData) (sets : List ℕ) (standings : List Standing) : Type 0 where
  pub most : (set : ℕ) → value_in sets standings set ≤ known rules search.lines set
  pub reaches : search.spent ≡ false → All (λ path. Reaches search path limit (value_in sets standings path.rest)) paths

-- a walk from the paths of a layer: it is walked to its end, or it would have used up the lines and may not
abbrev pub WalksLayer : Rules → SearchData → Bool → ℕ → List PathData → Option Layer → SearchData → Type 0
WalksLayer rules before may_spend limit paths None after = (may_spend ≡ false) × Extends before after
WalksLayer rules before may_spend limit paths (Some layer) after =
    IsSearch rules after × Rises before after × IsLayer rules after limit paths layer.sets.keys layer.standings.items

-- a walk of the whole film: what is known of all scenes reaches the limit or the best path, unless the search is spent; or
-- the walk would have used up the lines and may not, and all is as it was
abbrev pub HasWalked : Rules → SearchData → Bool → ℕ → Bool → SearchData → Type 0
HasWalked rules before may_spend limit false after = (may_spend ≡ false) × (after ≡ before)
HasWalked rules before may_spend limit true after =
    IsSearch rules after × Rises before after
    × (after.spent ≡ false → (cost : ℕ) → cost ≤ limit → cost ≤ after.best.paid → cost ≤ known rules after.lines (all_scenes rules.film))
