-- A search over a hand, on its way from the front through the tasks.
use Rattle.std.specs.Prelude.{◌≡◌, ℕ, List, length}
use Rattle.strip_model.specs.declared.kind.Kind.{Kind}
use Rattle.strip_model.specs.Film.{FilmData}
use Rattle.strip_lines.specs.Lines.{rules_of}
use Rattle.strip_hand.specs.Hand.{HandData, IsSearchOf}
use Rattle.strip_front.specs.Calls.{AreFound}
use Rattle.strip_front.specs.Filled.{IsFilled}
use Rattle.strip_front.specs.Front.{FrontData, IsFrontOf}

-- the front of its tasks was gone down, and what was found of each task is at most what is known of what remains
-- after it
pub record IsOnItsWay (kind : Kind) (film : FilmData) (hand : HandData) (front : FrontData) (found : List ℕ) : Type 0 where
  pub search : IsSearchOf kind film hand
  pub tasks : hand.search.tasks ≡ front.tasks
  pub front_of : IsFrontOf (rules_of kind film) front
  pub filled : IsFilled hand front
  pub long : length found ≡ length front.tasks
  pub known : AreFound hand front found
