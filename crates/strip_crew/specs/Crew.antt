-- The passes of a worker of a crew, as a hand, and what becomes of it where passes are split, joined and settled.
use Rattle.std.specs.Prelude.{◌≡◌, ℕ, suc, ◌+◌, ◌<◌, None, List, length, All}
use Rattle.strip_model.specs.declared.kind.Kind.{Kind}
use Rattle.strip_model.specs.Film.{FilmData}
use Rattle.strip_bound.specs.declared.source.Bounds.{Ghosts}
use Rattle.strip_hand.specs.Hand.{HandData, IsSearchOf}
use Rattle.strip_least.specs.declared.least.Least.{Least}
use Rattle.strip_least.specs.Rule.{full_weight}
use Rattle.strip_least.specs.Pass.{known as known_least}
use Rattle.strip_book.specs.declared.book.Book.{Book}
use Rattle.strip_book.specs.Pass.{known, table_of}
use Rattle.strip_front.specs.Front.{FrontData}
use Rattle.strip_worker.specs.declared.walked.Walked.{Walked}
use Rattle.strip_worker.specs.Closed.{AreCountedBy, HasAll}
use Rattle.strip_worker.specs.Team.{GoesOn, HasWorked, IsFresh}
use Rattle.strip_crew.specs.declared.hub.HubParts.{HubParts}
use Rattle.strip_crew.specs.Hub.{IsHub, hand_of}
use Rattle.strip_crew.specs.Source.{SourceHome, source_home}
use Rattle.strip_crew.specs.declared.job.Job.{Job}
use Rattle.strip_crew.specs.Sources.{Bears, Deals, IsWorkers, NoneLeft, split_home}

-- two passes and a source, as a hand that has neither probed nor noted
abbrev pub shown : HubParts → HandData
shown passes = hand_of passes.source (known_least passes.told) (known passes.lines) None None

-- the passes are of these words and of this book, and go together
abbrev pub ArePassesOf : Least → Book → HubParts → Type 0
ArePassesOf least book passes = IsHub (table_of book) least book passes.source passes.told passes.lines

-- each of the passes weighs so much, and the source bears as much
pub record Weigh (weight : ℕ) (passes : HubParts) : Type 0 where
  pub told : (known_least passes.told).weight ≡ weight
  pub lines : (known passes.lines).weight ≡ weight
  pub source : Bears weight passes.source

-- no part is left, as the passes know
abbrev pub NoPartLeft : HubParts → Type 0
NoPartLeft passes = NoneLeft passes.source (known_least passes.told).ended

-- the passes can be split for so many workers, who take their parts from this home, and for whoever has what is left
pub record CanSplit (workers : ℕ) (home : SourceHome) (passes : HubParts) : Type 0 where
  pub weight : (rest : ℕ) × Weigh (1 + rest + workers) passes
  pub deals : (desk : ℕ) → desk < workers → Deals desk (split_home passes.source)
  pub home_is : split_home passes.source ≡ home

-- passes of a further worker were split off, which know what these know and have nothing
pub record HasSplit (least : Least) (book : Book) (before part after : HubParts) : Type 0 where
  pub passes : ArePassesOf least book after
  pub same : shown after ≡ shown before
  pub lighter : (weight : ℕ) → Weigh (suc weight) before → Weigh weight after
  pub new_passes : ArePassesOf least book part
  pub light : Weigh 1 part
  pub fresh : IsFresh (shown before) (shown part)
  pub home : split_home after.source ≡ split_home before.source
  pub worker : IsWorkers part.source
  pub from : source_home part.source ≡ split_home before.source

-- passes were settled: they went on, with the records and the source that they had; those of full weight count all
-- lines, and where no part is left, they have all parts
pub record AreSettled (before after : HubParts) : Type 0 where
  pub goes_on : GoesOn (shown before) (shown after)
  pub records : (part : ℕ) → (shown after).records part ≡ (shown before).records part
  pub source : after.source ≡ before.source
  pub counts : Weigh full_weight before → AreCountedBy (shown after) (shown after).lines
  pub all : Weigh full_weight before → NoPartLeft before → HasAll (shown after)

-- a worker's job in a search of the film by its tasks: passes of weight 1, a worker's source, and what was found with
-- them so far
pub record IsJob {B : Type 0} {bounds : Ghosts B} (kind : Kind) (film : FilmData) (front : FrontData) (least : Least) (book : Book)
    (home : SourceHome) (job : Job B bounds) : Type 0 where
  pub passes : ArePassesOf least book job.passes
  pub light : Weigh 1 job.passes
  pub worker : IsWorkers job.passes.source
  pub from : source_home job.passes.source ≡ home
  pub search : IsSearchOf kind film (shown job.passes)
  pub worked : HasWorked (shown job.passes) front job.walked.found.items job.walked.spent

-- the job is done: no part is left
pub record IsDone {B : Type 0} {bounds : Ghosts B} (kind : Kind) (film : FilmData) (front : FrontData) (least : Least) (book : Book)
    (home : SourceHome) (job : Job B bounds) : Type 0 where
  pub is_job : IsJob kind film front least book home job
  pub left : NoPartLeft job.passes

-- so many jobs were dealt from passes
pub record AreDealt {B : Type 0} {bounds : Ghosts B} (kind : Kind) (film : FilmData) (front : FrontData) (least : Least) (book : Book)
    (before after : HubParts) (jobs : List (Job B bounds)) (workers : ℕ) : Type 0 where
  pub passes : ArePassesOf least book after
  pub same : shown after ≡ shown before
  pub weight : (rest : ℕ) → Weigh (rest + workers) before → Weigh rest after
  pub count : length jobs ≡ workers
  pub home : split_home after.source ≡ split_home before.source
  pub jobs_are : All (IsJob kind film front least book (split_home before.source)) jobs

-- a job that is done was put to passes, and what it found to what was found
pub record HasGathered {B : Type 0} {bounds : Ghosts B} (least : Least) (book : Book) (before : HubParts)
    (was : Walked) (job : Job B bounds) (after : HubParts) (walked : Walked) : Type 0 where
  pub passes : ArePassesOf least book after
  pub goes_on : GoesOn (shown before) (shown after)
  pub weight : (rest : ℕ) → Weigh rest before → Weigh 1 job.passes → Weigh (rest + 1) after
  pub home : split_home after.source ≡ split_home before.source
  pub worked : (front : FrontData) → HasWorked (shown before) front was.found.items was.spent
      → HasWorked (shown job.passes) front job.walked.found.items job.walked.spent
      → HasWorked (shown after) front walked.found.items walked.spent
  pub left : NoPartLeft job.passes → NoPartLeft after

-- workers did what was left to do, and what they found was gathered into these passes, which weigh as much as before,
-- if that was so much
pub record HaveWorked (so_much : ℕ) (front : FrontData) (least : Least) (book : Book) (before after : HubParts)
    (walked : Walked) : Type 0 where
  pub passes : ArePassesOf least book after
  pub goes_on : GoesOn (shown before) (shown after)
  pub weight : Weigh so_much before → Weigh so_much after
  pub worked : HasWorked (shown after) front walked.found.items walked.spent
  pub left : NoPartLeft after
