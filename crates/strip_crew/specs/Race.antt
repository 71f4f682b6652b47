-- How a race opens, begins and is closed.
use Rattle.std.specs.Prelude.{◌≡◌, ℕ, suc, ◌<◌, ◌≤◌, Bool, false, if◌then◌else◌, List, [], ◌∷◌, ◌++◌}
use mathlib.Core.Bool.{beq}
use Rattle.strip_model.specs.declared.kind.Kind.{Kind}
use Rattle.strip_model.specs.Film.{FilmData}
use Rattle.strip_hand.specs.Hand.{IsSearchOf}
use Rattle.strip_front.specs.Calls.{IsUnfilled}
use Rattle.strip_front.specs.Front.{FrontData}
use Rattle.strip_front.specs.Shown.{front_data}
use Rattle.strip_least.specs.declared.least.Least.{Least}
use Rattle.strip_least.specs.Pass.{best_path, known as known_least}
use Rattle.strip_least.specs.Rule.{full_weight, once_below, times}
use Rattle.strip_book.specs.declared.book.Book.{Book}
use Rattle.strip_book.specs.Pass.{known}
use Rattle.strip_worker.specs.declared.walked.Walked.{Walked}
use Rattle.strip_worker.specs.Closed.{IsClosed}
use Rattle.strip_worker.specs.Team.{GoesOn, HasWorked}
use Rattle.strip_crew.specs.declared.hub.HubParts.{HubParts}
use Rattle.strip_crew.specs.declared.source.Source.TheVariants.{Counter}
use Rattle.strip_crew.specs.Source.{AreTasks}
use Rattle.strip_crew.specs.declared.racing.Opening.{Opening}
use Rattle.strip_crew.specs.Crew.{ArePassesOf, Weigh, shown}
use Rattle.strip_crew.specs.Sources.{Deals, split_home}

-- a race may begin with these passes and this front: there are no others, nothing was claimed, and the front has
-- nothing in it
pub record MayBegin (kind : Kind) (film : FilmData) (front : FrontData) (least : Least) (book : Book)
    (passes : HubParts) : Type 0 where
  pub are : ArePassesOf least book passes
  pub full : Weigh full_weight passes
  pub search : IsSearchOf kind film (shown passes)
  pub some_lines : 1 ≤ (shown passes).search.nodes
  pub unclaimed : (known passes.lines).entries ≡ []
  pub counter : passes.source ≡ Counter
  pub unended : (known_least passes.told).ended ≡ false
  pub unfilled : IsUnfilled (shown passes).search front

-- what a race begins with whose start path paid this, with room for so many lines
pub record IsOpening (kind : Kind) (film : FilmData) (paid room : ℕ) (opening : Opening) : Type 0 where
  pub may : MayBegin kind film (front_data opening.front) opening.least opening.book opening.passes
  pub start : (shown opening.passes).search.start ≡ paid
  pub nodes : (shown opening.passes).search.nodes ≡ room

-- the front was claimed and no other part, and the counter has all others
pub record HasOnlyFront (passes : HubParts) : Type 0 where
  pub counter : passes.source ≡ Counter
  pub claimed : (part : ℕ) → times part (known_least passes.told).claims ≡ once_below part 1

-- the front was claimed and no other part, and gone down: nothing was found of any task yet, and it may have been cut
-- short
pub record HasBegun (front : FrontData) (least : Least) (book : Book) (before after : HubParts)
    (walked : Walked) : Type 0 where
  pub passes : ArePassesOf least book after
  pub full : Weigh full_weight after
  pub only : HasOnlyFront after
  pub search : (shown after).search ≡ (shown before).search
  pub worked : HasWorked (shown after) front walked.found.items walked.spent

-- the front was closed up with this number, by all passes in one, whose best path paid the least cost told
pub record HasClosed (kind : Kind) (film : FilmData) (least : Least) (book : Book) (before after : HubParts)
    (number : ℕ) (spent : Bool) : Type 0 where
  pub passes : ArePassesOf least book after
  pub full : Weigh full_weight after
  pub search : (shown after).search ≡ (shown before).search
  pub closed : IsClosed kind film (shown after) spent number
  pub best : (best_path after.told).paid ≡ (shown after).told

abbrev pub part_if : Bool → ℕ → List ℕ
part_if is part = if is then part ∷ [] else []

-- the parts of those tasks that are asked for, or of those that aren't, where the first task has this part
abbrev pub parts_where : Bool → ℕ → List Bool → List ℕ
parts_where asked part [] = []
parts_where asked part (wanted ∷ more) = part_if (beq wanted asked) part ++ parts_where asked (suc part) more

-- the numbers are the parts of so many tasks, each once
abbrev pub ArePartsOf : ℕ → List ℕ → Type 0
ArePartsOf tasks numbers = AreTasks (suc tasks) numbers

-- the passes were perhaps given a pool from which workers take the tasks, and so many workers can have a source
pub record IsReady (least : Least) (book : Book) (workers : ℕ) (before after : HubParts) : Type 0 where
  pub passes : ArePassesOf least book after
  pub goes_on : GoesOn (shown before) (shown after)
  pub records : (part : ℕ) → (shown after).records part ≡ (shown before).records part
  pub full : Weigh full_weight before → Weigh full_weight after
  pub deals : (desk : ℕ) → desk < workers → Deals desk (split_home after.source)
